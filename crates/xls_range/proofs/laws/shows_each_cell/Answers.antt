use Rattle.xls_range.proofs.CellLemmas.{shows_each_cell}
use Rattle.xls_range.proofs.laws.shows_each_cell.Goals as goal

pub returns : goal.returns
returns g c = shows_each_cell g.T.PartialEq.eq g.T.CellType.blank_test
