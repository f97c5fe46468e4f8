use Rattle.std.proofs.Common.{◌≡◌, ◌<◌, length, arith, refl, ◌∙◌}
use Rattle.std.proofs.lemmas.List.{length-set, get_or-set_other}
use Rattle.xls_rounding.proofs.LimbLemmas.{multiply_none, multiply_more, multiply_all}
use Rattle.xls_rounding.proofs.limbs.multiply.Goals as goal

pub loop-i-init : goal.loop-i-init
loop-i-init c = (refl, multiply_none c.args.limbs.now c.args.by, λ k h. refl)

pub loop-i-preserved : goal.loop-i-preserved
loop-i-preserved c =
    let l = c.loop-i in
    let now = l.limbs in
    let within : l.i < length now = omega arith in
    let before : l.i < length c.args.limbs.now = omega arith in
    let low = c.carrying_mul-low.result.0 in (
      length-set now l.i low ∙ l.invariant.0,
      multiply_more c.args.limbs.now now l.i c.args.by l.carry low c.carrying_mul-low.result.1 before within
          (l.invariant.2 l.i (omega arith)) l.invariant.1 c.carrying_mul-low.ensures,
      λ k h. get_or-set_other now l.i k low 0 (λ e. omega arith) ∙ l.invariant.2 k (omega arith),
    )

pub returns : goal.returns
returns c =
    let l = c.loop-i in
    let end : l.i ≡ length c.args.limbs.now = omega arith in
    multiply_all c.args.limbs.now l.limbs c.args.by l.carry l.invariant.0 (rw end at l.invariant.1) c.requires
