use Rattle.std.proofs.Common.{length}
use Rattle.xls_stream.specs.StringTable.{units_at}
use Rattle.xls_stream.proofs.StringUnits.{UnitsSoFar}
use Rattle.xls_strings.proofs.marked.read_units.Given as goal

abbrev pub invariant-loop-left : goal.invariant-loop-left
invariant-loop-left l = UnitsSoFar (units_at l.fn.count l.fn.wide l.fn.text) l.fn.out.items l.out.items l.left l.is_wide l.text

abbrev pub decreases-loop-left : goal.decreases-loop-left
decreases-loop-left l = length l.text
