use Rattle.std.proofs.Common.{◌≡◌, ◌-◌, ◌^◌, ◌≤◌, min}
use Rattle.xls_rounding.specs.Limbs.{twice_at}
use Rattle.xls_rounding.proofs.doubles.rounded_size.Given as goal

abbrev pub invariant-up : goal.invariant-up
invariant-up l = (l.scale ≤ 630) × (l.twice ≡ min (twice_at l.mantissa l.exponent l.scale) (2 ^ 52))

abbrev pub decreases-up : goal.decreases-up
decreases-up l = 630 - l.scale

abbrev pub invariant-down : goal.invariant-down
invariant-down l =
    (l.scale ≤ 630) × (l.twice ≡ min (twice_at l.mantissa l.exponent l.scale) (2 ^ 52)) × (200_000_000_000_000 ≤ l.twice)

abbrev pub decreases-down : goal.decreases-down
decreases-down l = l.scale
