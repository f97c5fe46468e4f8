use Rattle.xls_formula_shown.proofs.WaitingLemmas.{nothing_left}
use Rattle.xls_formula_shown.proofs.waiting.Waiting.clear.Goals as goal

pub returns : goal.returns
returns c = nothing_left c.clear.new.self c.clear-2.new.self c.clear.ensures.bytes c.clear-2.ensures.bytes
