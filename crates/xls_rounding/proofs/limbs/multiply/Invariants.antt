use Rattle.std.proofs.Common.{◌≡◌, ℕ, ◌+◌, ◌*◌, ◌≤◌, length, take, get_or}
use Rattle.xls_rounding.specs.Limbs.{value, weight}
use Rattle.xls_rounding.proofs.limbs.multiply.Given as goal

-- the limbs so far with the carry are the product of those that were there
abbrev pub invariant-loop-i : goal.invariant-loop-i
invariant-loop-i l =
    (length l.limbs ≡ length l.fn.limbs) × (value (take l.i l.limbs) + l.carry * weight l.i ≡ value (take l.i l.fn.limbs) * l.by)
    × ((k : ℕ) → l.i ≤ k → get_or l.limbs k 0 ≡ get_or l.fn.limbs k 0)
