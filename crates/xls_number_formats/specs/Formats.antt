-- A number format: its sections, and the codes from each of them on.
use Rattle.std.specs.Prelude.{ℕ, zero, suc, List, [], ◌∷◌, Option, Some, None}
use Rattle.xls_number_formats.specs.declared.sections.Section.{Section}
use Rattle.xls_number_formats.specs.Grammar.{after_section}
use Rattle.xls_number_formats.specs.Sections.{sections_of}

pub record Parts : Type 0 where
  pub sections : List Section
  pub codes : List (List ℕ)

-- the codes from each section on, at most so many
abbrev pub codes_after : (List ℕ → List (List ℕ)) → Option (List ℕ) → List (List ℕ)
codes_after codes None = []
codes_after codes (Some cs) = codes cs

abbrev pub first_codes : ℕ → List ℕ → List (List ℕ)
first_codes zero cs = []
first_codes (suc n) cs = cs ∷ codes_after (first_codes n) (after_section cs)

abbrev pub parts_of : List ℕ → Parts
parts_of cs = record { sections = sections_of cs; codes = first_codes 4 cs }
