use Rattle.xls_range.specs.Headers.{Prints}
use Rattle.xls_range.proofs.HeaderLemmas.{AllZip-more}
use Rattle.xls_range.proofs.range.Range.headers.Goals as goal

pub loop-cell-preserved : goal.loop-cell-preserved
loop-cell-preserved g c =
    rw c.in_ok-push.ensures.items (AllZip-more (Prints g.T.Display.output) c.row-first.result.now c.loop-cell.headers.items c.loop-cell.cell-index c.cell-item.result c.in_ok-to_string.field-0
    c.loop-cell-test.true c.cell-item.is c.loop-cell.invariant c.in_ok-to_string.ensures.ok)
