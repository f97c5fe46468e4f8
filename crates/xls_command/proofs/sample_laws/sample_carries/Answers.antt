use Rattle.xls_command.proofs.LayoutLemmas.{carries}
use Rattle.xls_command.proofs.sample_laws.sample_carries.Goals as goal

pub returns : goal.returns
returns c = carries
