use Rattle.std.proofs.Common.{◌≡◌, ◌/◌, ◌^◌}
use Rattle.xls_rounding.specs.Limbs.{value}
use Rattle.xls_rounding.proofs.limbs.divide_by_ten_to.Given as goal

abbrev pub invariant-loop-left : goal.invariant-loop-left
invariant-loop-left l = value l.limbs / 10 ^ l.left ≡ value l.fn.limbs / 10 ^ l.n

abbrev pub decreases-loop-left : goal.decreases-loop-left
decreases-loop-left l = l.left
