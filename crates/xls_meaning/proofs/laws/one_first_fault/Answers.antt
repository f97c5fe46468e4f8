use Rattle.xls_meaning.proofs.LawLemmas as lemmas
use Rattle.xls_meaning.proofs.laws.one_first_fault.Goals as goal

pub returns : goal.returns
returns c = lemmas.one_first_fault
