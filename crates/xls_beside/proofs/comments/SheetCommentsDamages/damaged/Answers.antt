use Rattle.std.proofs.Common.{List, ℕ, ap, map, ◌∙◌}
use Rattle.xls_parts.specs.PartRecords.{own_records}
use Rattle.xls_comments.specs.Comments.{comment_items}
use Rattle.xls_beside.specs.Comments.{comment}
use Rattle.xls_beside.proofs.DamagedLemmas.{counts_as}
use Rattle.xls_beside.proofs.comments.SheetCommentsDamages.damaged.Goals as goal

pub returns : goal.returns
returns c =
    let s = c.args.self.now in
    let bytes = ap (λ (b : List ℕ). comment_items s.version s.page (own_records c.args.part.offset b)) c.part_at-bytes.ensures.bytes in
    counts_as c.items_damaged.result (ap (map comment) (c.in_ok-comments.ensures ∙ bytes)) c.items_damaged.ensures
