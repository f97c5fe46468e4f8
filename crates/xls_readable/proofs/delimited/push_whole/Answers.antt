use Rattle.std.proofs.Common.{◌≡◌, ℕ, ◌<◌, ℤ, List, ◌++◌, Result, Ok, Err, OnOk, refl, rules}
use Rattle.std.specs.Fmt.{signed_decimal}
use Rattle.std.specs.String.{string_bytes}
use Rattle.xls_output.specs.Added.{AddsText}
use Rattle.xls_readable.specs.Csv.{IsField}
use Rattle.xls_readable.specs.declared.values.Value.TheVariants.{Int}
use Rattle.xls_readable.proofs.QuoteLemmas.{whole_field}
use Rattle.xls_readable.proofs.delimited.push_whole.Goals as goal

-- the text that was appended is the field
appended : {E : Type 0} (d : ℕ) (low : d < 0x2D) (n : ℤ) (old new : List ℕ) (r : Result (Unit {0}) E)
    → OnOk r (new ≡ old ++ signed_decimal n) → OnOk r (AddsText (IsField d (Int n)) old new)
appended d low n old new (Ok x) e = (signed_decimal n, (signed_decimal n, refl, whole_field d low n), e)
appended d low n old new (Err x) p = tt

pub returns-clause-ok : goal.returns-clause-ok
returns-clause-ok c =
    let n = c.args.n in
    let old = string_bytes c.args.buf.now in
    let new = string_bytes c.push_int.new.buf in
    let digits : OnOk c.push_int.result (new ≡ old ++ signed_decimal n) = search rules in
    appended c.args.delimiter c.requires n old new c.push_int.result digits
