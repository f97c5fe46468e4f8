use Rattle.xls_formula.proofs.TextLemmas.{text_more}
use Rattle.xls_formula.proofs.words.push_text.Goals as goal

pub returns : goal.returns
returns c = text_more c.args.out.now c.push_str.new.self c.args.text.now c.in_ok-push_str.ensures.bytes
