use Rattle.xls_layouts.proofs.TableLemmas.{laid_count}
use Rattle.xls_layouts.proofs.laws.laid_count.Goals as goal

pub returns : goal.returns
returns c = laid_count
