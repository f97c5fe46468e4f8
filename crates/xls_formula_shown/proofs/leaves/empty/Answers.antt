use Rattle.xls_formula_shown.proofs.WaitingLemmas.{empty_text}
use Rattle.xls_formula_shown.proofs.leaves.empty.Goals as goal

pub returns : goal.returns
returns c = empty_text c.clear.new.self c.clear.ensures.bytes
