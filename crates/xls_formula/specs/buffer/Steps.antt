-- What a step that changes texts says of its definition.
use Rattle.std.specs.Prelude.{◌≡◌, Result, Ok, Err}
use Rattle.xls_record.specs.Reading.{Fails}
use Rattle.xls_record.specs.declared.error.XlsError.{XlsError}

-- what a call left is what the definition gives, unless memory ran out
abbrev pub Leaves : {Y : Type 0} → Result (Unit {0}) XlsError → Y → Result Y XlsError → Type 0
Leaves (Ok u) new input = input ≡ Ok new
Leaves (Err e) new input = Fails e input
