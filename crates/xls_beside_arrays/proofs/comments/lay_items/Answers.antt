use Rattle.xls_beside.proofs.CommentsLemmas.{given}
use Rattle.xls_beside_arrays.proofs.LaidLemmas.{partly-all, partly-next}
use Rattle.xls_beside_arrays.proofs.comments.lay_items.Goals as goal
use Rattle.xls_beside_arrays.specs.Comments.{with_comment}

pub loop-next-preserved : goal.loop-next-preserved
loop-next-preserved c =
    partly-next with_comment c.loop-next.invariant (given c.in_ok-item.was c.in-Some.ensures.steps)
    c.in_ok-lay_note.ensures.same c.in_ok-lay_note.ensures.ok

pub returns-clause-ok : goal.returns-clause-ok
returns-clause-ok c = partly-all with_comment c.loop-next.invariant c.in-None.ensures.steps.0
