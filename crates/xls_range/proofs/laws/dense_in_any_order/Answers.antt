use Rattle.xls_range.proofs.DenseLemmas.{dense_in_any_order}
use Rattle.xls_range.proofs.laws.dense_in_any_order.Goals as goal

pub returns : goal.returns
returns g c = dense_in_any_order g.T.PartialEq.eq g.T.CellType.blank_test g.met.T.Eq.laws g.met.T.CellType.blank_exactly
