use Rattle.std.proofs.Common.{◌≡◌, ℕ, ◌+◌, ◌*◌, ◌<◌, ◌≤◌, length, drop, get_or}
use Rattle.xls_rounding.specs.Limbs.{value}
use Rattle.xls_rounding.proofs.limbs.divide.Given as goal

-- the limbs from here on are the quotient of those that were there
abbrev pub invariant-loop-i : goal.invariant-loop-i
invariant-loop-i l =
    (l.i ≤ length l.fn.limbs) × (length l.limbs ≡ length l.fn.limbs) × (l.rest < l.by)
    × (value (drop l.i l.limbs) * l.by + l.rest ≡ value (drop l.i l.fn.limbs))
    × ((k : ℕ) → k < l.i → get_or l.limbs k 0 ≡ get_or l.fn.limbs k 0)

abbrev pub decreases-loop-i : goal.decreases-loop-i
decreases-loop-i l = l.i
