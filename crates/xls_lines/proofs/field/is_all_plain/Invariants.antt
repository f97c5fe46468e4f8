use Rattle.std.proofs.Common.{◌≡◌, take}
use Rattle.std.specs.List.{flat_map}
use Rattle.xls_lines.specs.Lines.{escaped_char}
use Rattle.xls_lines.proofs.field.is_all_plain.Given as goal

-- the bytes so far stand for themselves
abbrev pub invariant-loop-byte : goal.invariant-loop-byte
invariant-loop-byte l = flat_map escaped_char (take l.byte-index l.bytes) ≡ take l.byte-index l.bytes
