use Rattle.std.proofs.Common.{◌≡◌, ◌-◌, ◌+◌, sym, ◌∙◌, ap, refl, arith}
use Rattle.xls_passwords.specs.Xor.{with_bits}
use Rattle.xls_passwords.proofs.XorLemmas.{with_bits-none, with_bits-more}
use Rattle.xls_passwords.proofs.xor.XorKey.with_byte.Goals as goal

pub bits-init : goal.bits-init
bits-init c = refl

pub bits-preserved : goal.bits-preserved
bits-preserved c =
    rw c.with_bit-key.ensures (sym (with_bits-more (8 - c.bits.counter) (8 - (c.bits.counter + 1)) c.bits.bits c.bits.key (omega arith)) ∙ c.bits.invariant)

pub returns : goal.returns
returns c =
    let none : 8 - c.bits.counter ≡ 0 = omega arith in
    sym (with_bits-none c.bits.bits c.bits.key) ∙ ap (λ n. with_bits n c.bits.bits c.bits.key) (sym none) ∙ c.bits.invariant
