use Rattle.xls_formula_shown.proofs.WaitingLemmas.{nothing_left}
use Rattle.xls_formula_shown.proofs.waiting.Waiting.new.Goals as goal

pub returns : goal.returns
returns c = nothing_left c.new.result c.new-2.result c.new.ensures.bytes c.new-2.ensures.bytes
