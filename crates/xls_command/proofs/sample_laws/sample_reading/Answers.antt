use Rattle.xls_command.proofs.ReadLemmas as lemmas
use Rattle.xls_command.proofs.sample_laws.sample_reading.Goals as goal

pub returns : goal.returns
returns c = lemmas.reading
