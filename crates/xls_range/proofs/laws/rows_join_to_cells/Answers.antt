use Rattle.std.proofs.Common.{sym, ◌∙◌}
use Rattle.xls_range.proofs.WalkLemmas.{joined_rows, values_of_cells}
use Rattle.xls_range.proofs.laws.rows_join_to_cells.Goals as goal

pub returns : goal.returns
returns g c x is = joined_rows x.height x.width x.cells is.count ∙ sym (values_of_cells 0 x.width x.cells)
