use Rattle.std.proofs.Common.{◌^◌, min, ap, ◌∙◌}
use Rattle.xls_rounding.proofs.LimbLemmas.{value-drop}
use Rattle.xls_rounding.proofs.limbs.capped_above.Goals as goal

pub returns : goal.returns
returns c =
    rw c.split_at.ensures.back at c.capped.ensures
    ∙ ap (λ t. min t (2 ^ 52)) (value-drop c.args.limbs.now c.args.lowest (λ k. (c.type_inv.limbs k).fits))
