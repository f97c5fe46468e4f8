use Rattle.xls_arrays.proofs.DisplayedLemmas.{map-drop, map-drop_all}
use Rattle.xls_beside_arrays.proofs.LaidLemmas.{partly-all, partly-next}
use Rattle.xls_beside_arrays.proofs.outside.lay_all_cited.Goals as goal
use Rattle.xls_beside_arrays.specs.Outside.{with_cited}
use Rattle.xls_other_books.specs.Outside.{cited_view}

pub loop-next-preserved : goal.loop-next-preserved
loop-next-preserved c =
    partly-next (with_cited c.args.row c.args.column) c.loop-next.invariant
    (map-drop cited_view c.args.cited.now c.loop-next.next-index _ c.loop-next-test.true c.next-item.is)
    c.in_ok-lay_cited.ensures.same c.in_ok-lay_cited.ensures.ok

pub returns-clause-ok : goal.returns-clause-ok
returns-clause-ok c =
    partly-all (with_cited c.args.row c.args.column) c.loop-next.invariant
    (map-drop_all cited_view c.args.cited.now c.loop-next.next-index c.loop-next-test.false)
