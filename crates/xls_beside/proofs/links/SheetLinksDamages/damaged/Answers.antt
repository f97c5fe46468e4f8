use Rattle.std.proofs.Common.{List, ℕ, ap, map, ◌∙◌}
use Rattle.xls_parts.specs.PartRecords.{own_records}
use Rattle.xls_links.specs.Links.{link_items}
use Rattle.xls_beside.specs.Links.{link}
use Rattle.xls_beside.proofs.DamagedLemmas.{counts_as}
use Rattle.xls_beside.proofs.links.SheetLinksDamages.damaged.Goals as goal

pub returns : goal.returns
returns c =
    let s = c.args.self.now in
    let bytes = ap (λ (b : List ℕ). link_items s.version s.page (own_records c.args.part.offset b)) c.part_at-bytes.ensures.bytes in
    counts_as c.items_damaged.result (ap (map link) (c.new-links.ensures ∙ bytes)) c.items_damaged.ensures
