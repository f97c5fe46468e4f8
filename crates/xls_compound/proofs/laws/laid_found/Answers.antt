use Rattle.xls_compound.proofs.LayoutLemmas.{laid_held}
use Rattle.xls_compound.proofs.laws.laid_found.Goals as goal

pub returns : goal.returns
returns c = laid_held
