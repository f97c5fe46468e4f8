-- The parts of a code that are its items.
use Rattle.std.specs.Prelude.{ℕ, zero, suc, ◌≡◌, Bool, false, ◌||◌, ◌==◌, List, [], ◌∷◌, ◌++◌, length, take, if◌then◌else◌, Option, Some, None}
use Rattle.std.specs.List.{concat}
use Rattle.xls_number_formats.specs.Grammar.{head_of, is_place, items, after_section}

-- the characters of each item of a section, as `items_from` tells them apart
abbrev pub sources_from : ℕ → Bool → List ℕ → List (List ℕ)
sources_from more placed [] = []
sources_from (suc more) placed (c ∷ cs) = sources_from more placed cs
sources_from zero placed (c ∷ cs) =
    let first = head_of placed c cs in
    if c == 59 then []
    else (c ∷ take first.more cs) ∷ sources_from first.more (placed || is_place first.item) cs

abbrev pub sources : List ℕ → List (List ℕ)
sources cs = sources_from 0 false cs

-- a `;` and what follows it
abbrev pub ending : Option (List ℕ) → List ℕ
ending None = []
ending (Some cs) = 59 ∷ cs

-- nothing of a section is lost or read twice: there are as many parts as items, and the parts one after
-- the other, and then what follows the section, are the code
abbrev pub SpellsCode : List ℕ → Type 0
SpellsCode cs = (length (sources cs) ≡ length (items cs)) × (concat (sources cs) ++ ending (after_section cs) ≡ cs)
