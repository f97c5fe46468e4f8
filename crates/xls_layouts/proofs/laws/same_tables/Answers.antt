use Rattle.xls_layouts.proofs.GrammarLemmas.{same_tables}
use Rattle.xls_layouts.proofs.laws.same_tables.Goals as goal

pub returns : goal.returns
returns c = same_tables
