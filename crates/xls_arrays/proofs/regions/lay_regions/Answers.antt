use Rattle.xls_arrays.specs.Arrays.{with_region}
use Rattle.xls_arrays.proofs.LaidLemmas.{partly-all, partly-next}
use Rattle.xls_arrays.proofs.regions.lay_regions.Goals as goal

pub loop-region-preserved : goal.loop-region-preserved
loop-region-preserved c =
    partly-next with_region c.loop-region.invariant c.in-Some.ensures.steps c.in_ok-lay_region.ensures.same c.in_ok-lay_region.ensures.ok

pub returns-clause-ok : goal.returns-clause-ok
returns-clause-ok c = partly-all with_region c.loop-region.invariant c.in-None.ensures.steps.0
