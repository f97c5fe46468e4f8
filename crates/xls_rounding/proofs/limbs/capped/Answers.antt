use Rattle.std.proofs.Common.{◌≡◌, ◌+◌, ◌-◌, arith}
use Rattle.xls_rounding.proofs.LimbLemmas.{capped_none, capped_some, capped_zero}
use Rattle.xls_rounding.proofs.limbs.capped.Goals as goal

pub loop-i-init : goal.loop-i-init
loop-i-init c = (omega arith, capped_none c.args.limbs.now)

pub loop-i-preserved-then-number-gt0 : goal.loop-i-preserved-then-number-gt0
loop-i-preserved-then-number-gt0 c =
    let l = c.loop-i in
    let i = l.i - 1 in
    let next : l.i ≡ i + 1 = omega arith in
    let before = rw next at l.invariant.1 in
    (omega arith, capped_some c.args.limbs.now i (omega arith) (omega arith))

pub loop-i-preserved : goal.loop-i-preserved
loop-i-preserved c =
    let l = c.loop-i in
    let i = l.i - 1 in
    let next : l.i ≡ i + 1 = omega arith in
    let before = rw next at l.invariant.1 in
    (omega arith, omega (arith, capped_zero c.args.limbs.now i (omega arith) (omega arith), c.min-number.ensures))
