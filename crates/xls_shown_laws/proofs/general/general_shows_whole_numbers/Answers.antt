use Rattle.xls_shown_laws.proofs.GeneralLemmas.{general_whole}
use Rattle.xls_shown_laws.proofs.general.general_shows_whole_numbers.Goals as goal

pub returns : goal.returns
returns c = general_whole
