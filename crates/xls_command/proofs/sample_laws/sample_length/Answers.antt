use Rattle.xls_command.proofs.LengthLemmas as lemmas
use Rattle.xls_command.proofs.sample_laws.sample_length.Goals as goal

pub returns : goal.returns
returns c = lemmas.sample_length
