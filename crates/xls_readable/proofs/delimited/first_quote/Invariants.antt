use Rattle.std.proofs.Common.{◌≡◌, take}
use Rattle.std.specs.List.{flat_map}
use Rattle.xls_readable.specs.Csv.{doubled_byte}
use Rattle.xls_readable.proofs.delimited.first_quote.Given as goal

-- the bytes so far stand as they are
abbrev pub invariant-loop-i : goal.invariant-loop-i
invariant-loop-i l = flat_map doubled_byte (take l.i l.bytes) ≡ take l.i l.bytes
