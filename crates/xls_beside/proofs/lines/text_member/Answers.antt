use Rattle.std.proofs.Common.{List, ℕ, ap}
use Rattle.xls_readable.specs.Items.{text}
use Rattle.xls_beside.proofs.LineLemmas.{encoded}
use Rattle.xls_beside.proofs.lines.text_member.Goals as goal

pub returns : goal.returns
returns c = ap (λ (t : List ℕ). (c.args.name.now, text t)) (encoded c.as_str.result.now _ c.as_str.utf8 c.as_str.ensures.value)
