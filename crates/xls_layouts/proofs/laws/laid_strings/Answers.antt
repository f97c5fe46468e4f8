use Rattle.xls_layouts.proofs.TableLemmas.{laid_strings}
use Rattle.xls_layouts.proofs.laws.laid_strings.Goals as goal

pub returns : goal.returns
returns c = laid_strings
