-- What the steps over a stack of texts leave. The first text of a list is the one on top.
use Rattle.std.specs.Prelude.{ℕ, List, [], ◌∷◌, ◌++◌, length, Result, Ok, Err}
use Rattle.xls_record.specs.declared.error.XlsError.{XlsError}
use Rattle.xls_record.specs.declared.error.XlsError.TheVariants as errors

abbrev pub Texts : Type 0
Texts = List (List ℕ)

-- a mark before the text on top; of no text none
abbrev pub with_prefix : List ℕ → Texts → Texts
with_prefix mark [] = []
with_prefix mark (t ∷ ts) = (mark ++ t) ∷ ts

-- a mark after the text on top
abbrev pub with_suffix : List ℕ → Texts → Texts
with_suffix mark [] = []
with_suffix mark (t ∷ ts) = (t ++ mark) ∷ ts

-- a mark between the two texts on top
abbrev pub with_join : List ℕ → Texts → Texts
with_join mark [] = []
with_join mark (t ∷ []) = t ∷ []
with_join mark (right ∷ left ∷ ts) = (left ++ (mark ++ right)) ∷ ts

-- the text where there is one alone; else how many there are
abbrev pub one_text : Texts → Result (List ℕ) XlsError
one_text [] = Err (errors.InvalidFormula 0)
one_text (t ∷ []) = Ok t
one_text (t ∷ u ∷ us) = Err (errors.InvalidFormula (length (t ∷ u ∷ us)))
