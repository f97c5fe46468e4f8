use Rattle.std.specs.BTreeMap.{get_by_text}
use Rattle.xls_beside.proofs.PartLemmas.{part_with, parts_next}
use Rattle.xls_beside.proofs.parts.index_of.Goals as goal

pub loop-i-preserved : goal.loop-i-preserved
loop-i-preserved c = λ version globals areas.
    let l = c.loop-i in
    parts_next (get_by_text l.index) (get_by_text c.put.new.index) version globals c.args.listed.now l.i c.index-listed-i.result
    c.as_str.result.now _ c.loop-i-test.true c.index-listed-i.is c.as_str.ensures.value
    (part_with c.index-listed-i.result.offset (areas.each l.i c.loop-i-test.true)) c.in_ok-put.ensures (l.invariant version globals areas)
