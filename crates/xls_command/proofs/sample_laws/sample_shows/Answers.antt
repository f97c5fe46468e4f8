use Rattle.xls_command.proofs.RangeLemmas as lemmas
use Rattle.xls_command.proofs.sample_laws.sample_shows.Goals as goal

pub returns : goal.returns
returns c = lemmas.sample_shows
