use Rattle.std.proofs.Common.{◌≡◌, length, map, take}
use Rattle.xls_passwords.specs.Xor.{unit_byte}
use Rattle.xls_passwords.proofs.xor.fill_bytes.Given as goal

-- the bytes of the units so far
abbrev pub invariant-units : goal.invariant-units
invariant-units l = record {
  len : length l.bytes ≡ 15;
  front : take l.i l.bytes ≡ map unit_byte (take l.i l.units);
}
