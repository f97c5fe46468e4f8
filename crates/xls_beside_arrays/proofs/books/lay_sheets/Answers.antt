use Rattle.xls_arrays.proofs.DisplayedLemmas.{map-drop, map-drop_all}
use Rattle.xls_beside_arrays.proofs.LaidLemmas.{partly-all, partly-next}
use Rattle.xls_beside_arrays.proofs.books.lay_sheets.Goals as goal
use Rattle.xls_beside_arrays.specs.Books.{with_sheet}
use Rattle.xls_strings.specs.Texts.{text_of}

pub loop-name-preserved : goal.loop-name-preserved
loop-name-preserved c =
    partly-next with_sheet c.loop-name.invariant
    (map-drop text_of c.args.sheets.now c.loop-name.name-index _ c.loop-name-test.true c.name-item.is)
    c.in_ok-lay_named.ensures.same c.in_ok-lay_named.ensures.ok

pub returns-clause-ok : goal.returns-clause-ok
returns-clause-ok c =
    partly-all with_sheet c.loop-name.invariant
    (map-drop_all text_of c.args.sheets.now c.loop-name.name-index c.loop-name-test.false)
