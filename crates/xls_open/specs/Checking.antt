-- What a check of a stream answers.
use Rattle.std.specs.Prelude.{ℕ, List, [], Option, Result, Ok, Err}
use Rattle.xls_record.specs.declared.error.XlsError.{XlsError}
use Rattle.xls_formula.specs.declared.numbers.NumberStyle.TheVariants.{Bits}
use Rattle.xls_meaning.specs.GlobalsTable.{forced_fault}
use Rattle.xls_meaning.specs.Faults.{FirstAfter}
use Rattle.xls_meaning.specs.Rules.{Rules}

-- the rules of a check; neither the limit of bytes, the functions nor the style counts (`checked_alike`)
abbrev pub checked : Option ℕ → ℕ → Rules
checked forced max =
    record {
      force_codepage = forced;
      max_bytes = 0;
      max_cells = max;
      functions = [];
      numbers = Bits;
    }

-- e is the first fault of the bytes, the byte limit apart
abbrev pub FirstChecked : Option ℕ → ℕ → List ℕ → XlsError → Type 0
FirstChecked forced max bytes e =
    FirstAfter (forced_fault forced) (checked forced max) bytes e

-- no place has a fault, the byte limit apart, or this is the first one
abbrev pub Checks : Option ℕ → ℕ → List ℕ → Result (Unit {0}) XlsError → Type 0
Checks forced max bytes (Ok u) = (e : XlsError) → FirstChecked forced max bytes e → ⊥
Checks forced max bytes (Err e) = FirstChecked forced max bytes e
