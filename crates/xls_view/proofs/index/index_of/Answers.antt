use Rattle.std.specs.BTreeMap.{get_by_text}
use Rattle.xls_view.proofs.IndexLemmas.{place_next}
use Rattle.xls_view.proofs.index.index_of.Goals as goal

pub loop-i-preserved : goal.loop-i-preserved
loop-i-preserved c =
    let l = c.loop-i in
    place_next c.args.sheets.now l.i c.index-sheets-i.result c.as_str.result.now (get_by_text l.index) (get_by_text c.put.new.index) c.loop-i-test.true c.index-sheets-i.is c.as_str.ensures.value l.invariant c.in_ok-put.ensures
