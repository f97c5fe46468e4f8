use Rattle.std.proofs.Common.{ℕ, List, ◌≡◌, subst, map, take}
use Rattle.std.specs.Ordering.{nat_cmp}
use Rattle.std.specs.BTreeMap.{get}
use Rattle.xls_dates.specs.declared.formats.CellFormat.{CellFormat}
use Rattle.xls_meaning.specs.Settings.{last_class, classed}
use Rattle.xls_open.specs.Workbook.{code_texts}
use Rattle.xls_open.proofs.ClassLemmas.{classed_more}
use Rattle.xls_open.proofs.classes.last_classes.Goals as goal

pub loop-format-preserved : goal.loop-format-preserved
loop-format-preserved c =
    let l = c.loop-format in
    subst (λ (fs : List (ℕ × CellFormat)). (q : ℕ) → get nat_cmp c.put_code.new.classes q ≡ last_class fs q)
    (classed_more c.args.codes.now l.format-index c.loop-format-test.true c.format-item.is)
    (c.in_ok-put_code.ensures (classed (map code_texts (take l.format-index c.args.codes.now))) l.invariant)
