-- Places of what is kept by format identifiers, for the proofs.
use Rattle.std.specs.Prelude.{◌≡◌, ℕ, zero, suc, ◌==◌, if◌then◌else◌, List, Option, Some, None, slice_index_or}
use Rattle.std.specs.List.{slice_get}
use Rattle.std.specs.Option.{option_map}
use Rattle.xls_view.specs.Codes.{last_code}

-- the place of an identifier, from 1 on, and 0 where it has none
abbrev pub place_at : List ℕ → ℕ → ℕ
place_at places ifmt = slice_index_or places ifmt 0

-- the place of one identifier is this, and those of the others are as before
abbrev pub PutsPlace : List ℕ → ℕ → ℕ → List ℕ → Type 0
PutsPlace old ifmt place new = (i : ℕ) → place_at new i ≡ (if ifmt == i then place else place_at old i)

-- the code at a place
abbrev pub code_at : List (ℕ × List ℕ) → ℕ → Option (List ℕ)
code_at formats zero = None
code_at formats (suc p) = option_map (λ (f : ℕ × List ℕ). f.1) (slice_get formats p)

-- the place of each identifier is that of the last of some formats which has it
abbrev pub AreLast : List (ℕ × List ℕ) → List (ℕ × List ℕ) → List ℕ → Type 0
AreLast formats some places = (i : ℕ) → code_at formats (place_at places i) ≡ last_code some i

-- at the place of each identifier, if it has one, stands its code
abbrev pub AreKept : (ℕ → List ℕ) → List ℕ → List (List ℕ) → Type 0
AreKept code places formats = (i p : ℕ) → place_at places i ≡ suc p → slice_get formats p ≡ Some (code i)
