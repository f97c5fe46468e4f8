use Rattle.xls_lay.proofs.LawLemmas.{canonical_opens}
use Rattle.xls_lay.proofs.laws.canonical_opens.Goals as goal

pub returns : goal.returns
returns c = canonical_opens
