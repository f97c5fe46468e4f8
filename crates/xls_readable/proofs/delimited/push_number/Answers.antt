use Rattle.std.proofs.Common.{ℕ, ◌<◌, List, Result, Ok, Err, OnOk}
use Rattle.xls_dates.specs.declared.numbers.Number.{Number}
use Rattle.xls_output.specs.Added.{AddsText}
use Rattle.xls_decimals.specs.Decimals.{IsDecimal}
use Rattle.xls_readable.specs.Csv.{IsField}
use Rattle.xls_readable.specs.declared.values.Value.TheVariants.{Float}
use Rattle.xls_readable.proofs.QuoteLemmas.{number_field}
use Rattle.xls_readable.proofs.delimited.push_number.Goals as goal

-- the text that was appended is the field
appended : {E : Type 0} (d : ℕ) (low : d < 0x2D) (n : Number) (old new : List ℕ) (r : Result (Unit {0}) E)
    → OnOk r (AddsText (IsDecimal n) old new) → OnOk r (AddsText (IsField d (Float n)) old new)
appended d low n old new (Ok x) (text, is, e) = (text, (text, is, number_field d low n text is), e)
appended d low n old new (Err x) p = tt

pub returns-clause-ok : goal.returns-clause-ok
returns-clause-ok c = appended c.args.delimiter c.requires c.args.n _ _ c.push_decimal.result c.push_decimal.ensures.ok
