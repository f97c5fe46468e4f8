use Rattle.xls_beside_arrays.proofs.LaidLemmas.{partly-all, partly-next}
use Rattle.xls_beside_arrays.proofs.cell_styles.lay_items.Goals as goal
use Rattle.xls_beside_arrays.specs.CellStyles.{with_cell_style}

pub loop-cell-preserved : goal.loop-cell-preserved
loop-cell-preserved c =
    partly-next with_cell_style c.loop-cell.invariant c.in-Some.ensures.steps
    c.in_ok-lay_cell.ensures.same c.in_ok-lay_cell.ensures.ok

pub returns-clause-ok : goal.returns-clause-ok
returns-clause-ok c = partly-all with_cell_style c.loop-cell.invariant c.in-None.ensures.steps.0
