use Rattle.xls_range.proofs.DenseLemmas.{last_wins}
use Rattle.xls_range.proofs.laws.last_wins.Goals as goal

pub returns : goal.returns
returns g c = last_wins g.T.PartialEq.eq g.T.CellType.blank_test
