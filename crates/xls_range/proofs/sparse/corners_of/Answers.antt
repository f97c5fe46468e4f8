use Rattle.std.proofs.Common.{sym}
use Rattle.std.proofs.lemmas.Option.{get_or_from_slice_get, slice_get_within}
use Rattle.xls_range.proofs.SparseLemmas.{AreCornersTo-zero, AreCornersTo-suc}
use Rattle.xls_range.proofs.sparse.corners_of.Goals as goal

pub loop-cell-init : goal.loop-cell-init
loop-cell-init g c =
    let first = c.in_ok-first.field-0.now in
    let read = sym c.in_ok-first.ensures.value in
    rw c.get_position-first.ensures (AreCornersTo-zero c.args.cells.now first (slice_get_within c.args.cells.now 0 first read) (sym (get_or_from_slice_get c.args.cells.now 0 first first read)))

pub loop-cell-preserved : goal.loop-cell-preserved
loop-cell-preserved g c =
    rw (c.min-top.ensures, c.min-left.ensures, c.max-bottom.ensures, c.max-right.ensures, c.get_position-row.ensures)
    (AreCornersTo-suc c.args.cells.now c.loop-cell.cell-index c.loop-cell.top c.loop-cell.left c.loop-cell.bottom c.loop-cell.right c.cell-item.result c.loop-cell-test.true c.cell-item.is c.loop-cell.invariant)
