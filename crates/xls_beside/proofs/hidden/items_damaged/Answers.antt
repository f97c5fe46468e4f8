use Rattle.xls_beside.specs.Hidden.{hidden}
use Rattle.xls_beside.proofs.DamagedLemmas.{some_all, some_first, some_next}
use Rattle.xls_beside.proofs.hidden.items_damaged.Goals as goal

pub loop-item-init : goal.loop-item-init
loop-item-init c = (tt, tt, some_first hidden c.into_iter-item-iterator.ensures.into_iter_gives)

pub loop-item-preserved : goal.loop-item-preserved
loop-item-preserved c =
    (tt, tt, some_next hidden c.loop-item.invariant.2 c.in-Some.ensures.steps c.item_damaged.ensures c.counted-count.ensures)

pub returns : goal.returns
returns c = some_all hidden c.loop-item.invariant.2 c.in-None.ensures.steps.0
