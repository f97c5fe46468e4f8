use Rattle.xls_pages.proofs.AsciiLemmas.{none-is-lost}
use Rattle.xls_pages.proofs.laws.no_ascii_is_lost.Goals as goal

pub returns : goal.returns
returns c = none-is-lost
