use Rattle.xls_beside_arrays.proofs.LaidLemmas.{partly-all, partly-next}
use Rattle.xls_beside_arrays.proofs.hidden.lay_items.Goals as goal
use Rattle.xls_beside_arrays.specs.Hidden.{with_hidden}

pub loop-item-preserved : goal.loop-item-preserved
loop-item-preserved c =
    partly-next with_hidden c.loop-item.invariant c.in-Some.ensures.steps
    c.in_ok-lay_hidden.ensures.same c.in_ok-lay_hidden.ensures.ok

pub returns-clause-ok : goal.returns-clause-ok
returns-clause-ok c = partly-all with_hidden c.loop-item.invariant c.in-None.ensures.steps.0
