use Rattle.std.proofs.Common.{List, ℕ, ap, map, ◌∙◌}
use Rattle.xls_parts.specs.PartRecords.{own_records}
use Rattle.xls_comments.specs.Comments.{comment_items}
use Rattle.xls_output.proofs.EachLemmas.{puts-as, puts-memory}
use Rattle.xls_beside.specs.Comments.{comment}
use Rattle.xls_beside.specs.Lines.{IsLineText}
use Rattle.xls_beside.proofs.comments.SheetCommentsTells.put.Goals as goal

pub returns-in_err-comments : goal.returns-in_err-comments
returns-in_err-comments g c = puts-memory (IsLineText c.args.form) _ _ _ _ _ c.from_residual.result c.from_residual.ensures.1

pub returns : goal.returns
returns g c =
    let s = c.args.self.now in
    let bytes = ap (λ (b : List ℕ). comment_items s.version s.page (own_records c.args.part.offset b)) c.part_at-bytes.ensures.bytes in
    puts-as (IsLineText c.args.form) _ _ c.put_items.result (ap (map comment) (c.in_ok-comments.ensures ∙ bytes)) c.put_items.ensures
