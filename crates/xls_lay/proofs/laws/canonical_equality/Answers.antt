use Rattle.xls_lay.proofs.LawLemmas.{same_lists}
use Rattle.xls_lay.proofs.laws.canonical_equality.Goals as goal

pub returns : goal.returns
returns c = same_lists
