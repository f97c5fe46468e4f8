-- The items of a section spell the code.
use Rattle.std.proofs.Common.{◌≡◌, ℕ, zero, suc, ◌==◌, ◌||◌, if◌then◌else◌, Bool, true, false, List, [], ◌∷◌, ◌++◌, length, take, drop, ap, sym, refl, ◌∙◌, Some}
use Rattle.std.specs.List.{concat}
use Rattle.std.proofs.lemmas.List.{append_assoc, take-append-drop}
use Rattle.xls_number_formats.specs.Grammar.{head_of, is_place, items_from, after_from}
use Rattle.xls_number_formats.specs.Laws.{sources_from, ending, SpellsCode}
use Rattle.xls_number_formats.proofs.TestLemmas.{eq_from_test}

pub as_many : (more : ℕ) (placed : Bool) (cs : List ℕ) → length (sources_from more placed cs) ≡ length (items_from more placed cs)
as_many zero placed [] = refl
as_many (suc more) placed [] = refl
as_many (suc more) placed (c ∷ cs) = as_many more placed cs
as_many zero placed (c ∷ cs) = by_test (c == 59) (as_many (head_of placed c cs).more (placed || is_place (head_of placed c cs).item) cs) where
  by_test : (t : Bool) → length (sources_from (head_of placed c cs).more (placed || is_place (head_of placed c cs).item) cs) ≡ length (items_from (head_of placed c cs).more (placed || is_place (head_of placed c cs).item) cs)
      → length (if t then [] else (c ∷ take (head_of placed c cs).more cs) ∷ sources_from (head_of placed c cs).more (placed || is_place (head_of placed c cs).item) cs)
      ≡ length (if t then [] else ((head_of placed c cs).item, (head_of placed c cs).text) ∷ items_from (head_of placed c cs).more (placed || is_place (head_of placed c cs).item) cs)
  by_test true again = refl
  by_test false again = ap suc again

pub spells : (more : ℕ) (placed : Bool) (cs : List ℕ) → concat (sources_from more placed cs) ++ ending (after_from more placed cs) ≡ drop more cs
spells zero placed [] = refl
spells (suc more) placed [] = refl
spells (suc more) placed (c ∷ cs) = spells more placed cs
spells zero placed (c ∷ cs) = by_test (c == 59) refl (spells (head_of placed c cs).more (placed || is_place (head_of placed c cs).item) cs) where
  by_test : (t : Bool) → (c == 59) ≡ t
      → concat (sources_from (head_of placed c cs).more (placed || is_place (head_of placed c cs).item) cs) ++ ending (after_from (head_of placed c cs).more (placed || is_place (head_of placed c cs).item) cs) ≡ drop (head_of placed c cs).more cs
      → concat (if t then [] else (c ∷ take (head_of placed c cs).more cs) ∷ sources_from (head_of placed c cs).more (placed || is_place (head_of placed c cs).item) cs)
      ++ ending (if t then Some cs else after_from (head_of placed c cs).more (placed || is_place (head_of placed c cs).item) cs) ≡ c ∷ cs
  by_test true e again = ap (λ x. x ∷ cs) (sym (eq_from_test c 59 e))
  by_test false e again =
      let more = (head_of placed c cs).more in
      let next = placed || is_place (head_of placed c cs).item in
      ap (λ xs. c ∷ xs) (append_assoc (take more cs) (concat (sources_from more next cs)) (ending (after_from more next cs))
      ∙ ap (λ xs. take more cs ++ xs) again ∙ take-append-drop more cs)

pub spells_code : (cs : List ℕ) → SpellsCode cs
spells_code cs = (as_many 0 false cs, spells 0 false cs)
