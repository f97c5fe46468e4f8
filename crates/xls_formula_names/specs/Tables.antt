-- Names by numbers, and the built-in names ([MS-XLS] 2.4.150 Lbl, fBuiltin) by the character that stands for each. Texts are lists of characters.
use Rattle.std.specs.Prelude.{ℕ, ◌==◌, List, [], ◌∷◌, if◌then◌else◌, Option, Some, None, codes}
use Rattle.std.specs.Borrow.{Bor}
use Rattle.std.specs.Option.{option_map}
use Rattle.std.specs.Str.{chars}

-- texts as they lie in memory
abbrev pub lent_text : Option (Bor (List ℕ)) → Option (List ℕ)
lent_text text = option_map (λ (t : Bor (List ℕ)). chars t.now) text

abbrev pub row_of : ℕ × Bor (List ℕ) → ℕ × List ℕ
row_of row = (row.0, chars row.1.now)

-- the name in the row of a number
abbrev pub name_in : List (ℕ × List ℕ) → ℕ → Option (List ℕ)
name_in [] number = None
name_in (row ∷ rows) number = if row.0 == number then Some row.1 else name_in rows number

unfoldable pub built_in_names : List (ℕ × List ℕ)
built_in_names =
    (0x00, codes "Consolidate_Area") ∷ (0x01, codes "Auto_Open") ∷ (0x02, codes "Auto_Close") ∷ (0x03, codes "Extract") ∷
    (0x04, codes "Database") ∷ (0x05, codes "Criteria") ∷ (0x06, codes "Print_Area") ∷ (0x07, codes "Print_Titles") ∷
    (0x08, codes "Recorder") ∷ (0x09, codes "Data_Form") ∷ (0x0A, codes "Auto_Activate") ∷ (0x0B, codes "Auto_Deactivate") ∷
    (0x0C, codes "Sheet_Title") ∷ (0x0D, codes "_FilterDatabase") ∷ []

abbrev pub built_in_name : ℕ → Option (List ℕ)
built_in_name c = name_in built_in_names c
