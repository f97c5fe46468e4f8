use Rattle.std.proofs.Common.{map}
use Rattle.xls_arrays.specs.Arrays.{with_cell_laid}
use Rattle.xls_arrays.specs.Classed.{classed_entry}
use Rattle.xls_arrays.proofs.LaidLemmas.{IsPartly}
use Rattle.xls_arrays.proofs.cells.lay_cells.Given as goal

-- the cells so far are laid
abbrev pub invariant-loop-cell : goal.invariant-loop-cell
invariant-loop-cell l =
    let told = map (classed_entry l.fn.formats) in
    IsPartly with_cell_laid (told l.fn.cells) (told l.cell-iterator) l.fn.rooms l.rooms
