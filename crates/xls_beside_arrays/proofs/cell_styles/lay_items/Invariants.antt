use Rattle.xls_beside_arrays.proofs.LaidLemmas.{IsPartly}
use Rattle.xls_beside_arrays.proofs.cell_styles.lay_items.Given as goal
use Rattle.xls_beside_arrays.specs.CellStyles.{with_cell_style}

-- the cells so far are laid
abbrev pub invariant-loop-cell : goal.invariant-loop-cell
invariant-loop-cell l = IsPartly with_cell_style l.fn.cells l.cell-iterator l.fn.rooms l.rooms
