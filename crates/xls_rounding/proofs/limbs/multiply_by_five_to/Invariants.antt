use Rattle.std.proofs.Common.{◌≡◌, ◌*◌, ◌^◌, length}
use Rattle.xls_rounding.specs.Limbs.{value}
use Rattle.xls_rounding.proofs.limbs.multiply_by_five_to.Given as goal

abbrev pub invariant-loop-left : goal.invariant-loop-left
invariant-loop-left l = (length l.limbs ≡ length l.fn.limbs) × (value l.limbs * 5 ^ l.left ≡ value l.fn.limbs * 5 ^ l.n)

abbrev pub decreases-loop-left : goal.decreases-loop-left
decreases-loop-left l = l.left
