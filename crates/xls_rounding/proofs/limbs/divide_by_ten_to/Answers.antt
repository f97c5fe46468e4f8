use Rattle.std.proofs.Common.{◌-◌, ◌/◌, ◌^◌, arith, ap, ◌∙◌}
use Rattle.xls_rounding.proofs.PlaceLemmas.{ten_pos}
use Rattle.xls_rounding.proofs.LimbLemmas.{tens_more}
use Rattle.xls_rounding.proofs.limbs.divide_by_ten_to.Goals as goal

pub loop-left-preserved : goal.loop-left-preserved
loop-left-preserved c =
    let l = c.loop-left in
    ap (λ t. t / 10 ^ (l.left - 19)) c.divide.ensures ∙ (tens_more _ l.left (omega arith) ∙ l.invariant)

pub divide-requires-2 : goal.divide-requires-2
divide-requires-2 c = let some = ten_pos c.loop-left.left in omega arith
