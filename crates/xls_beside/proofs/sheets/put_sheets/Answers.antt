use Rattle.std.proofs.Common.{ℕ, ◌∙◌}
use Rattle.xls_data.specs.Sheets.{SheetContent}
use Rattle.xls_open.specs.Globals.{listed_of}
use Rattle.xls_open.specs.declared.listed.Listed.{Listed}
use Rattle.xls_output.proofs.EachLemmas.{each-as, each-item, each-item-stopped, each-none, each-stops-as, puts-each-stop}
use Rattle.xls_beside.specs.Parts.{lines_of_sheet}
use Rattle.xls_beside.specs.Lines.{IsLineText}
use Rattle.xls_beside.proofs.LineLemmas.{lines_by, whole_lines}
use Rattle.xls_beside.proofs.sheets.put_sheets.Goals as goal

pub loop-next-init : goal.loop-next-init
loop-next-init g c = λ parts index. each-none (IsLineText c.args.form) _

pub loop-next-preserved : goal.loop-next-preserved
loop-next-preserved g c = λ parts index.
    each-item (λ (x : Listed). lines_of_sheet (g.T.Tells.lines c.args.things.now) parts (listed_of x).1) c.args.listed.now c.loop-next.next-index _
    c.loop-next-test.true (c.loop-next.invariant parts index) (rw c.next-item.is at c.in_ok-put_sheet.ensures parts index)

pub returns-in_err-put_sheet : goal.returns-in_err-put_sheet
returns-in_err-put_sheet g c = λ parts index.
    let lines = lines_of_sheet (g.T.Tells.lines c.args.things.now) parts in
    puts-each-stop c.from_residual.result c.from_residual.ensures.1
    (each-stops-as (each-item-stopped (λ (x : Listed). lines (listed_of x).1) c.args.listed.now
    c.loop-next.next-index _ c.loop-next-test.true (c.loop-next.invariant parts index) (rw c.next-item.is at c.in_err-put_sheet.ensures parts index))
    (lines_by (λ (q : ℕ × SheetContent). lines q.1) listed_of c.args.listed.now))

pub returns : goal.returns
returns g c = λ parts index.
    let lines = lines_of_sheet (g.T.Tells.lines c.args.things.now) parts in
    each-as (c.loop-next.invariant parts index)
    (whole_lines (λ (x : Listed). lines (listed_of x).1) c.args.listed.now _ c.loop-next-test.false
    ∙ lines_by (λ (q : ℕ × SheetContent). lines q.1) listed_of c.args.listed.now)
