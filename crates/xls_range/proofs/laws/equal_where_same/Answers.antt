use Rattle.xls_range.proofs.EqualLemmas.{AreSame-grid_eq, grid_eq-AreSame}
use Rattle.xls_range.proofs.laws.equal_where_same.Goals as goal

pub returns : goal.returns
returns g c x y a b = (AreSame-grid_eq g.T.PartialEq.eq x y, grid_eq-AreSame g.T.PartialEq.eq x y a b)
