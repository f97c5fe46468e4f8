use Rattle.xls_lay.proofs.LawLemmas.{canonical_carries}
use Rattle.xls_lay.proofs.laws.canonical_carries.Goals as goal

pub returns : goal.returns
returns c = canonical_carries
