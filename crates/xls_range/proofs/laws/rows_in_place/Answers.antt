use Rattle.xls_range.proofs.WalkLemmas.{rows_in_place}
use Rattle.xls_range.proofs.laws.rows_in_place.Goals as goal

pub returns : goal.returns
returns g c = rows_in_place
