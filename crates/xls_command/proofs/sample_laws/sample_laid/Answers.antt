use Rattle.xls_command.proofs.LayoutLemmas.{sample_laid}
use Rattle.xls_command.proofs.sample_laws.sample_laid.Goals as goal

pub returns : goal.returns
returns c = sample_laid
