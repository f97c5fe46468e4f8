use Rattle.xls_range.proofs.WalkLemmas.{used-filter}
use Rattle.xls_range.proofs.laws.used_without_blanks.Goals as goal

pub returns : goal.returns
returns g c = used-filter g.T.CellType.blank_test
