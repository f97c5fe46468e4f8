use Rattle.xls_range.proofs.CellLemmas.{shows_blanks_of_none}
use Rattle.xls_range.proofs.laws.shows_blanks_of_none.Goals as goal

pub returns : goal.returns
returns g c = shows_blanks_of_none g.T.PartialEq.eq g.T.CellType.blank_test
