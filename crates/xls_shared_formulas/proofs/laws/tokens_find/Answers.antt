use Rattle.xls_shared_formulas.proofs.TokenLemmas as lemmas
use Rattle.xls_shared_formulas.proofs.laws.tokens_find.Goals as goal

pub returns : goal.returns
returns c = lemmas.tokens_find
