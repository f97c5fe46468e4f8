use Rattle.xls_formula_shown.proofs.WaitingLemmas.{at_start}
use Rattle.xls_formula_shown.proofs.walk.State.clear.Goals as goal

pub returns : goal.returns
returns c = at_start c.clear.new.self c.clear-2.new.self c.clear-3.new.self c.clear.ensures c.clear-2.ensures c.clear-3.ensures.bytes
