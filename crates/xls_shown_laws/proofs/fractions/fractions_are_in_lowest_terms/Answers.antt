use Rattle.xls_shown_laws.proofs.LowestLemmas.{nearest_lowest, ratio_lowest}
use Rattle.xls_shown_laws.proofs.fractions.fractions_are_in_lowest_terms.Goals as goal

pub returns-clause-nearest : goal.returns-clause-nearest
returns-clause-nearest c = nearest_lowest

pub returns-clause-shown : goal.returns-clause-shown
returns-clause-shown c = ratio_lowest
