use Rattle.std.specs.Char.Utf16.{utf16_lossy_chars}
use Rattle.xls_links.proofs.TextLemmas.{text_spelled}
use Rattle.xls_links.proofs.strings.text_of.Goals as goal

pub returns : goal.returns
returns c = text_spelled c.in_ok-text.text (utf16_lossy_chars c.args.units.now) c.in_ok-text.ensures
