use Rattle.xls_layouts.proofs.TableLemmas.{laid_texts}
use Rattle.xls_layouts.proofs.laws.laid_texts.Goals as goal

pub returns : goal.returns
returns c = laid_texts
