use Rattle.std.proofs.Common.{◌≡◌, ◌/◌, ◌%◌, ◌^◌, min, arith, ap, ◌∙◌, length, set, replicate}
use Rattle.std.proofs.lemmas.Nat.{one_shl}
use Rattle.std.proofs.lemmas.List.{length-set}
use Rattle.xls_rounding.proofs.LimbLemmas.{value_alone, shift_fits, placed}
use Rattle.xls_rounding.proofs.limbs.long_quotient.Goals as goal

pub multiply-requires : goal.multiply-requires
multiply-requires c =
    let shl = one_shl (c.args.up % 64) 64 (omega arith) in
    let at = value_alone 17 (c.args.up / 64) c.args.mantissa (omega arith) in
    let len : length (set (replicate 17 0) (c.args.up / 64) c.args.mantissa) ≡ 17 = length-set (replicate 17 0) (c.args.up / 64) c.args.mantissa in
    rw (shl, at, placed, len) (shift_fits c.args.mantissa c.args.up (omega arith) (omega arith))

pub returns : goal.returns
returns c =
    let shl = one_shl (c.args.up % 64) 64 (omega arith) in
    let at = value_alone 17 (c.args.up / 64) c.args.mantissa (omega arith) in
    let product = rw (shl, at, placed) at c.multiply.ensures in
    c.capped.ensures ∙ ap (λ t. min t (2 ^ 52)) (c.divide_by_ten_to.ensures ∙ ap (λ t. t / 10 ^ c.args.tens) product)
