use Rattle.xls_range.proofs.DenseLemmas.{has_corners}
use Rattle.xls_range.proofs.laws.has_corners.Goals as goal

pub returns : goal.returns
returns g c = has_corners
