use Rattle.std.proofs.Common.{map, take}
use Rattle.xls_refs.specs.Citations.{citation_of}
use Rattle.xls_refs.specs.Steps.{key_cite, IsDistinctSoFar}
use Rattle.xls_refs.proofs.distinct.distinct_cites.Given as goal

abbrev pub invariant-cites : goal.invariant-cites
invariant-cites l =
    IsDistinctSoFar l.seen (map citation_of l.items.items) (map key_cite (take l.cells-index l.cites))
