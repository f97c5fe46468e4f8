use Rattle.std.proofs.Common.{◌≡◌, drop, map}
use Rattle.std.specs.List.{position_from}
use Rattle.std.specs.Str.{bytes_eq, trim}
use Rattle.std.specs.String.{string_bytes}
use Rattle.xls_rows.specs.Columns.{column_of}
use Rattle.xls_rows.proofs.columns.column_with.Given as goal

abbrev pub invariant-loop-i : goal.invariant-loop-i
invariant-loop-i l =
    column_of (map string_bytes l.headers) l.name
    ≡ position_from (λ h. bytes_eq (trim h) l.name) l.i (map string_bytes (drop l.i l.headers))
