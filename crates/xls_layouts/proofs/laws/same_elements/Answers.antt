use Rattle.xls_layouts.proofs.GrammarLemmas.{same_elements}
use Rattle.xls_layouts.proofs.laws.same_elements.Goals as goal

pub returns : goal.returns
returns c = same_elements
