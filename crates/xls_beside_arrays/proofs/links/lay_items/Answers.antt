use Rattle.xls_beside.proofs.LinksLemmas.{given}
use Rattle.xls_beside_arrays.proofs.LaidLemmas.{partly-all, partly-next}
use Rattle.xls_beside_arrays.proofs.links.lay_items.Goals as goal
use Rattle.xls_beside_arrays.specs.Links.{with_link}

pub loop-next-preserved : goal.loop-next-preserved
loop-next-preserved c =
    partly-next with_link c.loop-next.invariant (given c.in_ok-item.was c.in-Some.ensures.steps)
    c.in_ok-lay_h_link.ensures.same c.in_ok-lay_h_link.ensures.ok

pub returns-clause-ok : goal.returns-clause-ok
returns-clause-ok c = partly-all with_link c.loop-next.invariant c.in-None.ensures.steps.0
