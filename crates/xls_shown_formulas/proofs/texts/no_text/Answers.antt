use Rattle.xls_shown_formulas.proofs.TextLemmas.{empty_text}
use Rattle.xls_shown_formulas.proofs.texts.no_text.Goals as goal

pub returns : goal.returns
returns c = empty_text c.new.result c.new.ensures.bytes
