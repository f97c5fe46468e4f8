use Rattle.xls_command.proofs.ReadLemmas as lemmas
use Rattle.xls_command.proofs.sample_laws.sample_opens.Goals as goal

pub returns : goal.returns
returns c = lemmas.opens
