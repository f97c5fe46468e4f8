use Rattle.std.proofs.Common.{List, ℕ, ap, map, ◌∙◌}
use Rattle.xls_hidden.specs.Hidden.{hidden_items, said_in}
use Rattle.xls_beside.specs.Hidden.{hidden}
use Rattle.xls_beside.proofs.DamagedLemmas.{counts_same}
use Rattle.xls_beside.proofs.hidden.HiddenDamages.damaged.Goals as goal

pub returns : goal.returns
returns c =
    let part = c.args.part in
    let version = c.args.self.now.version in
    let bytes = ap (λ (b : List ℕ). hidden_items version part.area (said_in version part.offset b)) c.part_at-bytes.ensures.bytes in
    c.items_damaged.ensures
    ∙ counts_same (ap (map hidden) (c.items.ensures ∙ (c.in_ok-hidden.ensures.items ∙ bytes)))
