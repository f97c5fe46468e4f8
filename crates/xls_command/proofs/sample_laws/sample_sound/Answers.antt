use Rattle.xls_command.proofs.SoundLemmas as lemmas
use Rattle.xls_command.proofs.sample_laws.sample_sound.Goals as goal

pub returns : goal.returns
returns c = lemmas.sound
