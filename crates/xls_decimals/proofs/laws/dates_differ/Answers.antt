use Rattle.xls_decimals.proofs.LawLemmas.{texts_differ}
use Rattle.xls_decimals.proofs.laws.dates_differ.Goals as goal

pub returns : goal.returns
returns c = texts_differ
