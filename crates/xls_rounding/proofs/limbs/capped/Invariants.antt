use Rattle.std.proofs.Common.{◌≡◌, ◌^◌, ◌≤◌, min, length, drop}
use Rattle.xls_rounding.specs.Limbs.{value}
use Rattle.xls_rounding.proofs.limbs.capped.Given as goal

abbrev pub invariant-loop-i : goal.invariant-loop-i
invariant-loop-i l = (l.i ≤ length l.limbs) × (l.number ≡ min (value (drop l.i l.limbs)) (2 ^ 52))

abbrev pub decreases-loop-i : goal.decreases-loop-i
decreases-loop-i l = l.i
