use Rattle.std.proofs.Common.{◌≡◌, take}
use Rattle.std.specs.List.{list_any}
use Rattle.xls_readable.specs.Csv.{is_marked}
use Rattle.xls_readable.proofs.delimited.is_piece_quoted.Given as goal

-- the bytes so far decide
abbrev pub invariant-loop-i : goal.invariant-loop-i
invariant-loop-i l = l.marked ≡ list_any (is_marked l.delimiter) (take l.i l.piece)
