-- Laws over the definitions.
use Rattle.std.specs.Prelude.{◌≡◌, ◌↔◌, ◌<◌, length, ℕ, List, [], ◌∷◌, Option, Some, None, Bool, if◌then◌else◌}
use Rattle.xls_rows.specs.Rows.{Row, Exposed, from_filled, first_header, after_key}

-- the headers and cells of the exposed columns that are not empty, in order
abbrev pub named_values : {T : Type 0} → (T → Bool) → List (Exposed T) → List (Option (List ℕ) × T)
named_values empty [] = []
named_values empty (e ∷ es) =
    if empty e.value then named_values empty es else (e.header, e.value) ∷ named_values empty es

-- the row after its kept cell was taken
abbrev pub after_value : {T : Type 0} → Row T → Row T
after_value row = record row { kept = None }

-- what a row gives that is read by `next_key` and `next_value` in turn, until there is no key
abbrev pub GivesByKey : {T : Type 0} → (T → Bool) → Row T → List (Option (List ℕ) × T) → Type 0
GivesByKey empty row [] = from_filled empty row.exposed ≡ []
GivesByKey empty row (p ∷ ps) =
    (0 < length (from_filled empty row.exposed))
    × (first_header (from_filled empty row.exposed) ≡ p.0)
    × ((after_key empty row).kept ≡ Some p.1)
    × GivesByKey empty (after_value (after_key empty row)) ps

-- a row read so gives the headers and cells of the exposed columns that are not empty, and only
-- these
abbrev pub ReadsByKey : (T : Type 0) → Type 0
ReadsByKey T = (empty : T → Bool) (row : Row T) (ps : List (Option (List ℕ) × T))
    → GivesByKey empty row ps ↔ (ps ≡ named_values empty row.exposed)
