use Rattle.xls_formula_laws.proofs.ReadingLemmas.{shared_are_alike}
use Rattle.xls_formula_laws.proofs.laws.shared_are_alike.Goals as goal

pub returns : goal.returns
returns c = shared_are_alike
