use Rattle.std.proofs.Common.{ℕ, List, ap, ◌∙◌}
use Rattle.std.specs.Str.{chars}
use Rattle.xls_data.specs.Sheets.{SheetContent}
use Rattle.xls_meaning.specs.Reading.{last_named}
use Rattle.xls_open.specs.Globals.{listed_of}
use Rattle.xls_open.specs.declared.listed.Listed.{Listed}
use Rattle.xls_beside.specs.Parts.{lines_if, lines_of_sheet}
use Rattle.xls_beside.proofs.DamagedLemmas.{counts_same, first_all, first_next}
use Rattle.xls_beside.proofs.LineLemmas.{lines_by}
use Rattle.xls_beside.proofs.counting.damaged_of_sheets.Goals as goal

pub loop-next-preserved : goal.loop-next-preserved
loop-next-preserved g c = λ parts index.
    let things = g.T.Damages.lines c.args.things.now in
    let lines = λ (x : Listed). lines_of_sheet things parts (listed_of x).1 in
    let named = counts_same (ap (λ (name : List ℕ). lines_if things (last_named parts (chars name))) c.as_str.ensures.value) in
    first_next lines c.args.listed.now c.loop-next.next-index _ c.loop-next-test.true (c.loop-next.invariant parts index)
    (c.in_ok-more.ensures parts index ∙ named ∙ counts_same (ap lines c.next-item.is)) c.counted-count.ensures

pub returns : goal.returns
returns g c = λ parts index.
    let lines = lines_of_sheet (g.T.Damages.lines c.args.things.now) parts in
    first_all (λ (x : Listed). lines (listed_of x).1) c.args.listed.now _ c.loop-next-test.false (c.loop-next.invariant parts index)
    ∙ counts_same (lines_by (λ (q : ℕ × SheetContent). lines q.1) listed_of c.args.listed.now)
