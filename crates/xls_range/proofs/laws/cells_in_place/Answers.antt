use Rattle.xls_range.proofs.WalkLemmas.{cells_in_place}
use Rattle.xls_range.proofs.laws.cells_in_place.Goals as goal

pub returns : goal.returns
returns g c = cells_in_place
