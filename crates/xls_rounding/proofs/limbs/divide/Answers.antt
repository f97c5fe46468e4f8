use Rattle.std.proofs.Common.{◌≡◌, ◌<◌, ◌+◌, ◌-◌, length, arith, refl, ◌∙◌}
use Rattle.std.proofs.lemmas.List.{length-set, get_or-set_other}
use Rattle.xls_rounding.proofs.LimbLemmas.{divide_none, divide_more}
use Rattle.xls_rounding.proofs.limbs.divide.Goals as goal

pub loop-i-init : goal.loop-i-init
loop-i-init c = (omega arith, refl, c.requires, divide_none c.args.limbs.now c.args.by, λ k h. refl)

pub loop-i-preserved : goal.loop-i-preserved
loop-i-preserved c =
    let l = c.loop-i in
    let now = l.limbs in
    let i = l.i - 1 in
    let next : l.i ≡ i + 1 = omega arith in
    let before : i < length c.args.limbs.now = omega arith in
    let within : i < length now = omega arith in
    let step = c.quotient_and_rest-quotient in (
      omega arith,
      length-set now i step.result.0 ∙ l.invariant.1,
      step.ensures.rest,
      divide_more c.args.limbs.now now i c.args.by l.rest step.result.0 step.result.1 before within
          (l.invariant.4 i (omega arith)) (rw next at l.invariant.3) step.ensures.whole,
      λ k h. get_or-set_other now i k step.result.0 0 (λ e. omega arith) ∙ l.invariant.4 k (omega arith),
    )
