use Rattle.std.specs.Ordering.{nat_cmp}
use Rattle.std.specs.BTreeMap.{get}
use Rattle.std.proofs.Common.{map}
use Rattle.xls_meaning.specs.Settings.{class_in, classed}
use Rattle.xls_open.specs.Workbook.{code_texts}
use Rattle.xls_open.proofs.MapLemmas.{map_next}
use Rattle.xls_open.proofs.ClassLemmas.{class_found}
use Rattle.xls_open.proofs.classes.classes_of.Goals as goal

pub loop-identifier-preserved : goal.loop-identifier-preserved
loop-identifier-preserved c =
    let l = c.loop-identifier in
    map_next (class_in (classed (map code_texts c.args.codes.now))) c.args.identifiers.now l.identifier-index 0 l.classes.items c.push.new.self.items c.class_of.result c.loop-identifier-test.true l.invariant c.in_ok-push.ensures.items
    (class_found (get nat_cmp c.in_ok-last.last) (classed (map code_texts c.args.codes.now)) _ c.class_of.result c.in_ok-last.ensures c.class_of.ensures)
