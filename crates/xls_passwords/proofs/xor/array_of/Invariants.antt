use Rattle.std.proofs.Common.{◌≡◌, ◌++◌, length, map, take}
use Rattle.std.specs.List.{range_with_len}
use Rattle.xls_passwords.specs.Xor.{array_byte, padding}
use Rattle.xls_passwords.proofs.xor.array_of.Given as goal

-- the bytes so far
abbrev pub invariant-bytes : goal.invariant-bytes
invariant-bytes l = record {
  len : length l.array ≡ 16;
  front : take l.i l.array ≡ map (array_byte (l.bytes ++ padding) l.key) (range_with_len 0 l.i);
}
