use Rattle.std.proofs.Common.{List, ℕ, ap, sym}
use Rattle.std.proofs.lemmas.Str.{encodes-chars}
use Rattle.xls_readable.specs.Items.{text}
use Rattle.xls_beside.proofs.lines.lent_member.Goals as goal

pub returns : goal.returns
returns c = ap (λ (t : List ℕ). (c.args.name.now, text t)) (sym (encodes-chars c.args.text.now c.utf8.text))
