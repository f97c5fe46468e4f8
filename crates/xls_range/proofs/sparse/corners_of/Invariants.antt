use Rattle.xls_range.proofs.SparseLemmas.{AreCornersTo}
use Rattle.xls_range.proofs.sparse.corners_of.Given as goal

abbrev pub invariant-loop-cell : goal.invariant-loop-cell
invariant-loop-cell g l = AreCornersTo l.cells l.cell-index l.top l.left l.bottom l.right
