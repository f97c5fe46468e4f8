use Rattle.xls_csv.proofs.SeenLemmas.{skip_all, skip_more, skip_none}
use Rattle.xls_csv.proofs.seen.skip_row.Goals as goal

pub loop-column-init : goal.loop-column-init
loop-column-init c = skip_none c.args.row c.args.extent.left c.args.extent.width c.args.cells.now

pub loop-column-preserved : goal.loop-column-preserved
loop-column-preserved c = skip_more _ _ _ _ _ c.loop-column-test.true c.take_at.ensures c.loop-column.invariant

pub returns : goal.returns
returns c = skip_all _ _ _ _ _ c.loop-column-test.false c.loop-column.invariant
