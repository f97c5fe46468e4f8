use Rattle.xls_refs.proofs.ViewLemmas.{viewed_is_cited}
use Rattle.xls_refs.proofs.laws.viewed_is_cited.Goals as goal

pub returns : goal.returns
returns c = viewed_is_cited
