use Rattle.xls_formula_laws.proofs.TextLemmas.{texts_agree}
use Rattle.xls_formula_laws.proofs.laws.texts_agree.Goals as goal

pub returns : goal.returns
returns c = texts_agree
