-- What a cell or a row is refused for. A text stands for its bytes in UTF-8.
use Rattle.std.specs.Prelude.{◌≡◌, ℕ, List, Result, Ok, Err, MatchResult}
use Rattle.std.specs.String.{string_bytes}
use Rattle.xls_data.specs.declared.errors.CellErrorType.{CellErrorType}
use Rattle.xls_rows.specs.declared.error.DeError.{DeError}
use Rattle.xls_rows.specs.declared.error.DeError.TheVariants as error

-- an error cell, a value where no cell is kept, a header in no column, and an exact text
pub data Refusal : Type 0 where
  cell_error : CellErrorType → ℕ × ℕ → Refusal
  end_of_row : ℕ × ℕ → Refusal
  no_header : List ℕ → Refusal
  custom : List ℕ → Refusal

-- the error says this refusal, or that memory ran out
abbrev pub Refuses : Refusal → DeError → Type 0
Refuses r (error.CellError e place) = r ≡ cell_error e place
Refuses r (error.UnexpectedEndOfRow place) = r ≡ end_of_row place
Refuses r (error.HeaderNotFound s) = r ≡ no_header (string_bytes s)
Refuses r (error.Custom s) = r ≡ custom (string_bytes s)
Refuses r error.Memory = Unit {0}

-- the answer is what is to be read, or its refusal, or that memory ran out
abbrev pub Gives : {A B : Type 0} → (A → B) → Result A DeError → Result B Refusal → Type 0
Gives view result (Ok y) = MatchResult result (λ x. view x ≡ y) (λ e. e ≡ error.Memory)
Gives view result (Err r) = MatchResult result (λ _. ⊥) (Refuses r)
