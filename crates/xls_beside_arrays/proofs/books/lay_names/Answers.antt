use Rattle.xls_arrays.proofs.DisplayedLemmas.{map-drop, map-drop_all}
use Rattle.xls_beside_arrays.proofs.LaidLemmas.{partly-all, partly-next}
use Rattle.xls_beside_arrays.proofs.books.lay_names.Goals as goal
use Rattle.xls_beside_arrays.specs.Books.{with_name}
use Rattle.xls_other_books.specs.Names.{name_view}

pub loop-name-preserved : goal.loop-name-preserved
loop-name-preserved c =
    partly-next (with_name c.args.linked) c.loop-name.invariant
    (map-drop name_view c.args.names.now c.loop-name.name-index _ c.loop-name-test.true c.name-item.is)
    c.in_ok-lay_name.ensures.same c.in_ok-lay_name.ensures.ok

pub returns-clause-ok : goal.returns-clause-ok
returns-clause-ok c =
    partly-all (with_name c.args.linked) c.loop-name.invariant
    (map-drop_all name_view c.args.names.now c.loop-name.name-index c.loop-name-test.false)
