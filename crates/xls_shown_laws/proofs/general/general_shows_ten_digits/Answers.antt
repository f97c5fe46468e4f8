use Rattle.xls_shown_laws.proofs.GeneralLemmas.{general_shows}
use Rattle.xls_shown_laws.proofs.general.general_shows_ten_digits.Goals as goal

pub returns : goal.returns
returns c = general_shows
