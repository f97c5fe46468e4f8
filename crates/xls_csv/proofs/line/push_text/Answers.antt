use Rattle.std.proofs.lemmas.Str.{encodes-chars}
use Rattle.xls_csv.proofs.line.push_text.Goals as goal

pub returns : goal.returns
returns c = rw (encodes-chars c.args.text.now c.utf8.text) (rw c.as_bytes.ensures.value at c.push_field.ensures)
