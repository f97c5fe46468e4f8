use Rattle.std.proofs.Common.{◌≡◌, take}
use Rattle.std.specs.List.{flat_map}
use Rattle.json.specs.Print.{escape_byte}
use Rattle.xls_readable.proofs.json_lines.first_escape.Given as goal

-- the bytes so far stand for themselves
abbrev pub invariant-loop-i : goal.invariant-loop-i
invariant-loop-i l = flat_map escape_byte (take l.i l.bytes) ≡ take l.i l.bytes
