use Rattle.xls_open.proofs.LaidLemmas.{laid_sound}
use Rattle.xls_open.proofs.laws.laid_sound.Goals as goal

pub returns : goal.returns
returns c = laid_sound
