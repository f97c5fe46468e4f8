use Rattle.std.proofs.Common.{ap, map}
use Rattle.xls_beside_arrays.proofs.LaidLemmas.{partly-all, partly-next}
use Rattle.xls_beside_arrays.proofs.outside.lay_records.Goals as goal
use Rattle.xls_beside_arrays.specs.Outside.{with_outside}
use Rattle.xls_other_books.specs.Formulas.{outside_of}

pub loop-r-preserved : goal.loop-r-preserved
loop-r-preserved c =
    partly-next with_outside c.loop-r.invariant (ap (map (outside_of c.args.other.now)) c.in-Some.ensures.steps)
    c.in_ok-lay_outside.ensures.same c.in_ok-lay_outside.ensures.ok

pub returns-clause-ok : goal.returns-clause-ok
returns-clause-ok c = partly-all with_outside c.loop-r.invariant (ap (map (outside_of c.args.other.now)) c.in-None.ensures.steps.0)
