use Rattle.std.proofs.Common.{◌≡◌, take}
use Rattle.std.specs.List.{flat_map}
use Rattle.xls_bytes.specs.Escapes.{escaped_char}
use Rattle.xls_bytes.proofs.escapes.first_escape.Given as goal

-- the bytes so far stand for themselves
abbrev pub invariant-loop-i : goal.invariant-loop-i
invariant-loop-i l = flat_map escaped_char (take l.i l.bytes) ≡ take l.i l.bytes
