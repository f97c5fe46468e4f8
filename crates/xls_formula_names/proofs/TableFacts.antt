-- The tables of names, whole, so that no wrong name or index checks: each command's table by how many rows it has and by a sum over all
-- their characters.
use Rattle.std.proofs.Common.{◌≡◌, ℕ, ◌+◌, ◌*◌, ◌%◌, List, [], ◌∷◌, ◌++◌, length, map, refl, codes, Some, None}
use Rattle.std.specs.List.{flat_map}
use Rattle.xls_formula_names.specs.Commands.{command_name, first_commands, second_commands, third_commands, fourth_commands}
use Rattle.xls_formula_names.specs.Tables.{built_in_name, built_in_names}

-- each character of 00 to 0E, and one beyond
pub known_built_in : map built_in_name (0x00 ∷ 0x01 ∷ 0x02 ∷ 0x03 ∷ 0x04 ∷ 0x05 ∷ 0x06 ∷ 0x07 ∷ 0x08 ∷ 0x09 ∷ 0x0A ∷ 0x0B ∷ 0x0C ∷ 0x0D ∷ 0x0E ∷ 0x41 ∷ []) ≡ (
    Some (codes "Consolidate_Area") ∷ Some (codes "Auto_Open") ∷ Some (codes "Auto_Close") ∷ Some (codes "Extract") ∷
    Some (codes "Database") ∷ Some (codes "Criteria") ∷ Some (codes "Print_Area") ∷ Some (codes "Print_Titles") ∷
    Some (codes "Recorder") ∷ Some (codes "Data_Form") ∷ Some (codes "Auto_Activate") ∷ Some (codes "Auto_Deactivate") ∷
    Some (codes "Sheet_Title") ∷ Some (codes "_FilterDatabase") ∷ None ∷ None ∷ []
    )
unfolding built_in_names
known_built_in = refl

-- each unit counts by its place: u0 + 65537 (u1 + 65537 (u2 + ..)), modulo the prime 2^61 - 1
abbrev sum_by_place : List ℕ → ℕ
sum_by_place [] = 0
sum_by_place (u ∷ us) = (u + 65_537 * sum_by_place us) % 2_305_843_009_213_693_951

-- an index, a name, and a 0
abbrev row_units : ℕ × List ℕ → List ℕ
row_units row = row.0 ∷ (row.1 ++ (0 ∷ []))

abbrev sum_of : List (ℕ × List ℕ) → ℕ
sum_of rows = sum_by_place (flat_map row_units rows)

pub known_first : length first_commands ∷ sum_of first_commands ∷ [] ≡ 99 ∷ 0x5E71E9179919B64 ∷ []
unfolding first_commands
known_first = refl

pub known_second : length second_commands ∷ sum_of second_commands ∷ [] ≡ 99 ∷ 0xB57FB84A10C9A83 ∷ []
unfolding second_commands
known_second = refl

pub known_third : length third_commands ∷ sum_of third_commands ∷ [] ≡ 99 ∷ 0x1D5941A519B461A9 ∷ []
unfolding third_commands
known_third = refl

pub known_fourth : length fourth_commands ∷ sum_of fourth_commands ∷ [] ≡ 99 ∷ 0x1D9E0DB8B9284183 ∷ []
unfolding fourth_commands
known_fourth = refl

-- both ends of each table, a hole, and what stands beyond the last
pub known_ends : map command_name (0 ∷ 1 ∷ 18 ∷ 106 ∷ 107 ∷ 224 ∷ 225 ∷ 394 ∷ 395 ∷ 808 ∷ 809 ∷ 65535 ∷ []) ≡ (
    Some (codes "BEEP") ∷ Some (codes "OPEN") ∷ None ∷ Some (codes "UNLOCKED.NEXT") ∷ Some (codes "UNLOCKED.PREV") ∷
    Some (codes "SHOW.LEVELS") ∷ Some (codes "FORMAT.MAIN") ∷ Some (codes "TAB.ORDER") ∷ Some (codes "SHOW.DIALOG") ∷
    Some (codes "HIDEALL.INKANNOTS") ∷ None ∷ None ∷ []
    )
unfolding first_commands second_commands third_commands fourth_commands
known_ends = refl
