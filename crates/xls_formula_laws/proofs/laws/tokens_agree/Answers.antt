use Rattle.xls_formula_laws.proofs.ReadingLemmas.{tokens_agree}
use Rattle.xls_formula_laws.proofs.laws.tokens_agree.Goals as goal

pub returns : goal.returns
returns c = tokens_agree
