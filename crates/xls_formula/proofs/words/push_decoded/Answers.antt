use Rattle.xls_text.specs.Pages.{string_text}
use Rattle.xls_formula.proofs.TextLemmas.{encoded_more}
use Rattle.xls_formula.proofs.words.push_decoded.Goals as goal

pub returns : goal.returns
returns c = encoded_more c.args.out.now c.decode_to.new.s (string_text c.args.encoding c.args.high_byte c.args.bytes.now c.args.count) c.in_ok-decode_to.ensures.text
