use Rattle.xls_shown_formulas.proofs.TextLemmas.{empty_text}
use Rattle.xls_shown_formulas.proofs.texts.empty.Goals as goal

pub returns : goal.returns
returns c = empty_text c.clear.new.self c.clear.ensures.bytes
