-- What the iterator over the rows of a range answers.
use Rattle.std.specs.Prelude.{◌≡◌, List, [], ◌∷◌, Option, None, IsSomeAnd, Result}
use Rattle.xls_rows.specs.declared.error.DeError.{DeError}
use Rattle.xls_rows.specs.Rows.{Row}

-- the answer stands in the relation of rows and answers to the first row, and the others are left;
-- None where no row is left
abbrev pub AnswersFirst : {T D : Type 0} → (Row T → Result D DeError → Row T → Type 0)
    → List (Row T) → Option (Result D DeError) → List (Row T) → Type 0
AnswersFirst answers [] answer rest = (answer ≡ None) × (rest ≡ [])
AnswersFirst {T} answers (row ∷ rows) answer rest =
    (rest ≡ rows) × IsSomeAnd answer (λ a. (after : Row T) × answers row a after)
