use Rattle.std.proofs.Common.{ap, map, sym}
use Rattle.xls_view.specs.Formats.{plain}
use Rattle.xls_arrays.specs.Arrays.{with_cell_laid}
use Rattle.xls_arrays.specs.Classed.{classed_entry}
use Rattle.xls_arrays.proofs.DisplayedLemmas.{map-next}
use Rattle.xls_arrays.proofs.LaidLemmas.{partly-all, partly-next}
use Rattle.xls_arrays.proofs.cells.lay_cells.Goals as goal

pub loop-cell-preserved : goal.loop-cell-preserved
loop-cell-preserved c =
    partly-next with_cell_laid c.loop-cell.invariant
    (map-next (classed_entry c.args.formats.now) c.in-Some.ensures.steps (sym (ap plain c.classed.ensures)))
    c.in_ok-lay_cell.ensures.same c.in_ok-lay_cell.ensures.ok

pub returns-clause-ok : goal.returns-clause-ok
returns-clause-ok c =
    partly-all with_cell_laid c.loop-cell.invariant (ap (map (classed_entry c.args.formats.now)) c.in-None.ensures.steps.0)
