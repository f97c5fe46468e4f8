use Rattle.std.proofs.Common.{◌-◌, ◌*◌, ◌^◌, arith, ap, ◌∙◌}
use Rattle.xls_rounding.proofs.LimbLemmas.{five_short, fives_fit, fives_more}
use Rattle.xls_rounding.proofs.limbs.multiply_by_five_to.Goals as goal

pub multiply-requires : goal.multiply-requires
multiply-requires c =
    let l = c.loop-left in
    rw l.invariant.0 (fives_fit _ 27 l.left _ _ (omega arith) l.invariant.1 c.requires)

pub loop-left-preserved : goal.loop-left-preserved
loop-left-preserved c =
    let l = c.loop-left in
    (omega arith, ap (λ t. t * 5 ^ (l.left - 27)) c.multiply.ensures ∙ (fives_more _ l.left (omega arith) ∙ l.invariant.1))

pub pow-requires : goal.pow-requires
pow-requires c = five_short c.loop-left.left (omega arith)
