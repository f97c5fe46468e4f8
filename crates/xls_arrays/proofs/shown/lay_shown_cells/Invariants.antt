use Rattle.xls_arrays.proofs.ShownLemmas.{IsPartlyShown}
use Rattle.xls_arrays.proofs.shown.lay_shown_cells.Given as goal

-- what is shown of the cells so far is laid
abbrev pub invariant-loop-cell : goal.invariant-loop-cell
invariant-loop-cell l = IsPartlyShown l.fn.formats l.fn.cells l.cell-iterator l.fn.rooms l.rooms
