use Rattle.std.proofs.Common.{◌≡◌, ◌-◌, ◌%◌}
use Rattle.xls_passwords.specs.Xor.{with_bits}
use Rattle.xls_passwords.proofs.xor.XorKey.with_byte.Given as goal

-- what is so far, with the bits that are left, is all
abbrev pub invariant-bits : goal.invariant-bits
invariant-bits l = with_bits (8 - l.counter) l.bits l.key ≡ with_bits 8 (l.byte % 128) l.fn.self
