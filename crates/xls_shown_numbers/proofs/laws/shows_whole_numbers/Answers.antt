use Rattle.xls_shown_numbers.proofs.LawLemmas.{zero_shows}
use Rattle.xls_shown_numbers.proofs.laws.shows_whole_numbers.Goals as goal

pub returns : goal.returns
returns c = zero_shows
