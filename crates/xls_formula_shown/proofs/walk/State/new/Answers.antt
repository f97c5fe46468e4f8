use Rattle.xls_formula_shown.proofs.WaitingLemmas.{at_start}
use Rattle.xls_formula_shown.proofs.walk.State.new.Goals as goal

pub returns : goal.returns
returns c = at_start c.new.result c.new-2.result c.new-3.result c.new.ensures c.new-2.ensures c.new-3.ensures.bytes
