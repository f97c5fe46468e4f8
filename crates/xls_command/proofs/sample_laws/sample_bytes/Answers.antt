use Rattle.xls_command.proofs.ByteLemmas as lemmas
use Rattle.xls_command.proofs.sample_laws.sample_bytes.Goals as goal

pub returns : goal.returns
returns c = lemmas.are_bytes
