use Rattle.xls_shown_laws.proofs.FractionLemmas.{ratio_fixed}
use Rattle.xls_shown_laws.proofs.fractions.fractions_keep_their_denominator.Goals as goal

pub returns : goal.returns
returns c = ratio_fixed
