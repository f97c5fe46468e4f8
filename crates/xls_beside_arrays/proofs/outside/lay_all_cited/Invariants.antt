use Rattle.std.proofs.Common.{drop, map}
use Rattle.xls_beside_arrays.proofs.LaidLemmas.{IsPartly}
use Rattle.xls_beside_arrays.proofs.outside.lay_all_cited.Given as goal
use Rattle.xls_beside_arrays.specs.Outside.{with_cited}
use Rattle.xls_other_books.specs.Outside.{cited_view}

-- what is cited so far is laid
abbrev pub invariant-loop-next : goal.invariant-loop-next
invariant-loop-next l =
    IsPartly (with_cited l.row l.column) (map cited_view l.cited) (map cited_view (drop l.next-index l.cited)) l.fn.rooms l.rooms
