use Rattle.xls_beside.specs.Comments.{comment}
use Rattle.xls_beside.proofs.DamagedLemmas.{some_all, some_first, some_next}
use Rattle.xls_beside.proofs.CommentsLemmas.{given}
use Rattle.xls_beside.proofs.comments.items_damaged.Goals as goal

pub loop-next-init : goal.loop-next-init
loop-next-init c = (tt, tt, some_first comment c.into_iter-next-iterator.ensures.into_iter_gives)

pub loop-next-preserved : goal.loop-next-preserved
loop-next-preserved c = (
  tt,
  tt,
  some_next comment c.loop-next.invariant.2 (given c.in_ok-item.was c.in-Some.ensures.steps)
      c.item_damaged.ensures c.counted-count.ensures,
)

pub returns : goal.returns
returns c = some_all comment c.loop-next.invariant.2 c.in-None.ensures.steps.0
