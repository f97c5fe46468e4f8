use Rattle.std.proofs.lemmas.Str.{encodes-chars}
use Rattle.xls_data.proofs.texts.copied_text.Goals as goal

pub returns : goal.returns
returns c = rw (encodes-chars c.args.text.now c.utf8.text) c.from_str.ensures.ok
