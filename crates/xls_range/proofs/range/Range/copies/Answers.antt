use Rattle.xls_range.specs.Grid.{cell_at}
use Rattle.xls_range.proofs.CopyLemmas.{AreCopies-suc}
use Rattle.xls_range.proofs.range.Range.copies.Goals as goal

pub loop-column-preserved : goal.loop-column-preserved
loop-column-preserved g c =
    rw c.in_ok-push.ensures.items (AreCopies-suc g.T.PartialEq.eq g.T.CellType.blank_test (cell_at c.args.self.now) c.args.start c.args.columns c.loop-row.row c.loop-column.column
    c.loop-column.cells.items c.in_ok-copy_at.field-0 c.loop-column-test.true c.loop-column.invariant c.in_ok-copy_at.ensures)
