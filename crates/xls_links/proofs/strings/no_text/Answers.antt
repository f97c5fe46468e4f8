use Rattle.std.proofs.Common.{[]}
use Rattle.xls_links.proofs.TextLemmas.{text_spelled}
use Rattle.xls_links.proofs.strings.no_text.Goals as goal

pub returns : goal.returns
returns c = text_spelled c.new.result [] c.new.ensures.bytes
