use Rattle.xls_open.proofs.AlikeLemmas as lemmas
use Rattle.xls_open.proofs.laws.checked_alike.Goals as goal

pub returns : goal.returns
returns c = lemmas.checked_alike
