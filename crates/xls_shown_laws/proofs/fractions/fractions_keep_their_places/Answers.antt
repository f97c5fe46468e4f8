use Rattle.xls_shown_laws.proofs.FractionLemmas.{nearest_within, ratio_within}
use Rattle.xls_shown_laws.proofs.fractions.fractions_keep_their_places.Goals as goal

pub returns-clause-nearest : goal.returns-clause-nearest
returns-clause-nearest c = nearest_within

pub returns-clause-shown : goal.returns-clause-shown
returns-clause-shown c = ratio_within
