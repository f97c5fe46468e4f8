use Rattle.std.proofs.Common.{◌≡◌, drop}
use Rattle.std.specs.List.{list_any}
use Rattle.xls_readable.specs.Csv.{is_marked}
use Rattle.xls_readable.proofs.delimited.is_rest_quoted.Given as goal

-- the bytes that are left decide
abbrev pub invariant-loop-i : goal.invariant-loop-i
invariant-loop-i l = list_any (is_marked l.delimiter) (drop l.i l.text) ≡ list_any (is_marked l.delimiter) l.text
