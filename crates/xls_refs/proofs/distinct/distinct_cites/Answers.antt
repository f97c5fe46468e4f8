use Rattle.std.proofs.Common.{subst, map, take}
use Rattle.xls_refs.specs.Citations.{citation_of}
use Rattle.xls_refs.specs.Steps.{key_cite, IsDistinctSoFar}
use Rattle.xls_refs.proofs.DistinctLemmas.{taken_more}
use Rattle.xls_refs.proofs.distinct.distinct_cites.Goals as goal

pub cites-preserved : goal.cites-preserved
cites-preserved c =
    subst (IsDistinctSoFar c.take.new.seen (map citation_of c.take.new.items.items)) (taken_more c.args.cites.now c.cites.cells-index _ c.cites-test.true)
    (c.in_ok-take.ensures (map key_cite (take c.cites.cells-index c.args.cites.now)) c.cites.invariant)
