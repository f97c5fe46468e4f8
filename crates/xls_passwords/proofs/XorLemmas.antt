-- The bits of a byte, one at a time.
use Rattle.std.proofs.Common.{◌≡◌, ℕ, ◌+◌, ◌/◌, ◌%◌, refl, add-one}
use Rattle.xls_passwords.specs.Xor.{with_bit, with_bits}
use Rattle.xls_passwords.specs.declared.xor.XorKey.{XorKey}

pub with_bits-none : (bits : ℕ) (k : XorKey) → with_bits 0 bits k ≡ k
unfolding with_bits
with_bits-none bits k = refl

pub with_bits-more : (m n bits : ℕ) (k : XorKey) → m ≡ n + 1 → with_bits m bits k ≡ with_bits n (bits / 2) (with_bit (bits % 2) k)
unfolding with_bits
with_bits-more m n bits k e = rw (e, add-one) refl
