use Rattle.xls_arrays.proofs.ShownLemmas.{shown-all, shown-first, shown-next}
use Rattle.xls_arrays.proofs.shown.lay_shown_cells.Goals as goal

pub loop-cell-init : goal.loop-cell-init
loop-cell-init c = shown-first c.args.formats.now c.args.cells _ c.args.rooms.now c.into_iter-cell-iterator.ensures.into_iter_gives

pub loop-cell-preserved : goal.loop-cell-preserved
loop-cell-preserved c =
    shown-next c.loop-cell.invariant c.in-Some.ensures.steps c.in_ok-lay_shown_cell.ensures.same c.in_ok-lay_shown_cell.ensures.ok

pub returns-clause-ok : goal.returns-clause-ok
returns-clause-ok c = shown-all c.loop-cell.invariant c.in-None.ensures.steps.0
