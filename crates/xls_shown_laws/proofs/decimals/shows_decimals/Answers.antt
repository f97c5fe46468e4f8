use Rattle.xls_shown_laws.proofs.DecimalLemmas.{zeros_show}
use Rattle.xls_shown_laws.proofs.decimals.shows_decimals.Goals as goal

pub returns : goal.returns
returns c = zeros_show
