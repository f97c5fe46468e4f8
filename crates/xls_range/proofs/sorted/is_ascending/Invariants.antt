use Rattle.xls_range.proofs.NumberLemmas.{Climbs}
use Rattle.xls_range.proofs.sorted.is_ascending.Given as goal

-- each of the cells so far comes before the next
abbrev pub invariant-loop-i : goal.invariant-loop-i
invariant-loop-i g l = Climbs l.i l.cells
