use Rattle.std.proofs.Common.{◌≡◌, length}
use Rattle.std.specs.List.{list_any}
use Rattle.xls_readable.specs.Csv.{is_marked}
use Rattle.xls_readable.proofs.delimited.is_quoted.Given as goal

-- the bytes that are left decide
abbrev pub invariant-pieces : goal.invariant-pieces
invariant-pieces l = list_any (is_marked l.delimiter) l.left ≡ list_any (is_marked l.delimiter) l.text

abbrev pub decreases-pieces : goal.decreases-pieces
decreases-pieces l = length l.left
