use Rattle.xls_range.proofs.WalkLemmas.{places_agree}
use Rattle.xls_range.proofs.laws.places_agree.Goals as goal

pub returns : goal.returns
returns g c = places_agree
