use Rattle.std.proofs.Common.{◌≡◌, ◌+◌, ◌-◌, ◌^◌, ◌<◌, ◌≤◌}
use Rattle.xls_rounding.specs.Fractions.{places_up_to}
use Rattle.xls_rounding.proofs.decimals.places.Given as goal

-- the digits that are left, and those that were counted
abbrev pub invariant-loop-rest : goal.invariant-loop-rest
invariant-loop-rest l = (l.count ≤ 20) × (l.rest < 10 ^ (20 - l.count)) × (places_up_to (640 - l.count) l.rest + l.count ≡ places_up_to 640 l.n)

abbrev pub decreases-loop-rest : goal.decreases-loop-rest
decreases-loop-rest l = l.rest
