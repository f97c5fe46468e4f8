-- What a cell contains; a text is the list of its characters.
use Rattle.std.specs.Prelude.{ℕ, ℤ, Bool, List}
use Rattle.xls_dates.specs.declared.numbers.Number.{Number}
use Rattle.xls_data.specs.declared.errors.CellErrorType.{CellErrorType}
use Rattle.xls_dates.specs.Dates.{DateParts}

-- a constructor for each kind of value
pub data Content : Type 0 where
  int : ℤ → Content
  float : Number → Content
  text : List ℕ → Content
  truth : Bool → Content
  date : DateParts → Content
  iso_date : List ℕ → Content
  iso_duration : List ℕ → Content
  failure : CellErrorType → Content
  nothing : Content
