use Rattle.std.proofs.Common.{ℕ, List, [], length}
use Rattle.xls_stream.specs.StringTable.{units_at}
use Rattle.xls_stream.proofs.StringUnits.{UnitsSoFar}
use Rattle.xls_style_cells.proofs.marked.skip_units.Given as goal

abbrev pub invariant-loop-left : goal.invariant-loop-left
invariant-loop-left l =
    (units : List ℕ) × UnitsSoFar (units_at l.fn.count l.fn.wide l.fn.text) [] units l.left l.width l.text

abbrev pub decreases-loop-left : goal.decreases-loop-left
decreases-loop-left l = length l.text
