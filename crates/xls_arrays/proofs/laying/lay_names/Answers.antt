use Rattle.xls_open.specs.Workbook.{name_texts}
use Rattle.xls_arrays.specs.Arrays.{with_name}
use Rattle.xls_arrays.proofs.LaidLemmas.{partly-all, partly-next}
use Rattle.xls_arrays.proofs.DisplayedLemmas.{map-drop, map-drop_all}
use Rattle.xls_arrays.proofs.laying.lay_names.Goals as goal

pub loop-name-preserved : goal.loop-name-preserved
loop-name-preserved c =
    partly-next with_name c.loop-name.invariant
    (map-drop name_texts c.args.names.now c.loop-name.name-index _ c.loop-name-test.true c.name-item.is)
    c.in_ok-lay_reported.ensures.same c.in_ok-lay_reported.ensures.ok

pub returns-clause-ok : goal.returns-clause-ok
returns-clause-ok c =
    partly-all with_name c.loop-name.invariant (map-drop_all name_texts c.args.names.now c.loop-name.name-index c.loop-name-test.false)
