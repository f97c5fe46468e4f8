use Rattle.xls_beside_arrays.proofs.LaidLemmas.{sheet-held}
use Rattle.xls_beside_arrays.proofs.cell_styles.lay_sheet.Goals as goal
use Rattle.xls_beside_arrays.specs.CellStyles.{cells_in, with_cell_style}

pub returns-clause-ok : goal.returns-clause-ok
returns-clause-ok c = sheet-held with_cell_style cells_in c.in_ok-sheet.sheet c.in_ok-sheet.ensures.ok c.in_ok-lay_part.ensures.ok
