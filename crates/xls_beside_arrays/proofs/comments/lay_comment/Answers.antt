use Rattle.std.proofs.lemmas.Result.{on_ok_weaker}
use Rattle.xls_beside_arrays.proofs.LaidLemmas.{lays-two}
use Rattle.xls_beside_arrays.proofs.comments.lay_comment.Goals as goal
use Rattle.xls_beside_arrays.specs.Comments.{comment_item}

pub returns-clause-ok : goal.returns-clause-ok
returns-clause-ok c =
    on_ok_weaker c.lay_item.result
    (lays-two (comment_item c.args.comment.now.row c.args.comment.now.column c.args.comment.now.visibility) c.in_ok-author.ensures.ok
    c.in_ok-words.ensures.ok c.comment_item.ensures)
    c.lay_item.ensures.ok
