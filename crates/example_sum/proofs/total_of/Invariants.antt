use Rattle.std.proofs.Common.{◌≡◌}
use Rattle.example_sum.specs.Sums.{total_above}
use Rattle.example_sum.proofs.SumLemmas.{IsSoFar}
use Rattle.example_sum.proofs.total_of.Given as goal

abbrev pub invariant-loop-i : goal.invariant-loop-i
invariant-loop-i l = (l.top ≡ l.range.top) × IsSoFar (total_above l.range l.column l.i) l.i l.sum
