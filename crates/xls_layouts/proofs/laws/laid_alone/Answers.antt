use Rattle.xls_layouts.proofs.LaidStreamLemmas.{laid_alone}
use Rattle.xls_layouts.proofs.laws.laid_alone.Goals as goal

pub returns : goal.returns
returns c = laid_alone
