use Rattle.std.proofs.Common.{◌≡◌, ◌*◌, ◌/◌, ◌%◌, ◌^◌, min, arith, ap, ◌∙◌}
use Rattle.std.proofs.lemmas.Nat.{one_shl}
use Rattle.xls_rounding.specs.Limbs.{value, weight}
use Rattle.xls_rounding.proofs.LimbLemmas.{value_first, product_fits, shifted}
use Rattle.xls_rounding.proofs.limbs.long_product.Goals as goal

pub multiply_by_five_to-requires : goal.multiply_by_five_to-requires
multiply_by_five_to-requires c = rw (value_first c.args.mantissa 16) (product_fits c.args.mantissa c.args.fives (omega arith) (omega arith))

pub returns : goal.returns
returns c =
    let n = c.args.mantissa * 5 ^ c.args.fives in
    let shl = one_shl (c.args.down % 64) 64 (omega arith) in
    let product : value c.multiply_by_five_to.new.limbs ≡ n =
    c.multiply_by_five_to.ensures ∙ ap (λ t. t * 5 ^ c.args.fives) (value_first c.args.mantissa 16) in
    let quotient : value c.divide.new.limbs ≡ n / 2 ^ (c.args.down % 64) = rw (product, shl) at c.divide.ensures in
    c.capped_above.ensures
    ∙ ap (λ t. min t (2 ^ 52)) (ap (λ t. t / weight (c.args.down / 64)) quotient ∙ shifted n c.args.down)
