use Rattle.std.proofs.Common.{◌≤◌, length, arith}
use Rattle.xls_output.proofs.EachLemmas.{puts-each-stop}
use Rattle.xls_listing.specs.Listing.{lines_of_formulas}
use Rattle.xls_listing.proofs.SheetLemmas.{sheets-all, sheets-first, sheets-line-stopped, sheets-next, sheets-stopped}
use Rattle.xls_listing.proofs.formulas.put_all_formulas.Goals as goal

pub loop-i-init : goal.loop-i-init
loop-i-init g c = sheets-first (g.F.LineForm.is_text c.args.form.now) lines_of_formulas c.args.view.now.book.sheets c.args.view.now.book.contents _

pub loop-i-preserved : goal.loop-i-preserved
loop-i-preserved g c =
    sheets-next lines_of_formulas c.args.view.now.book.sheets c.args.view.now.book.contents c.sheets-sheets.result.now c.sheets-sheets.ensures c.loop-i.i c.index-sheets-i.result c.loop-i-test.true c.index-sheets-i.is c.loop-i.invariant
    c.in_ok-put_sheet.ensures c.in_ok-put_formulas_at.ensures

pub returns-in_err-put_sheet : goal.returns-in_err-put_sheet
returns-in_err-put_sheet g c =
    puts-each-stop c.from_residual.result c.from_residual.ensures.1
    (sheets-line-stopped lines_of_formulas c.args.view.now.book.sheets c.args.view.now.book.contents c.sheets-sheets.result.now c.sheets-sheets.ensures c.loop-i.i c.index-sheets-i.result c.loop-i-test.true c.index-sheets-i.is c.loop-i.invariant
    c.in_err-put_sheet.ensures)

pub returns-in_err-put_formulas_at : goal.returns-in_err-put_formulas_at
returns-in_err-put_formulas_at g c =
    let a = c.from_residual-in_err-put_formulas_at in
    puts-each-stop a.result a.ensures.1
    (sheets-stopped lines_of_formulas c.args.view.now.book.sheets c.args.view.now.book.contents c.sheets-sheets.result.now c.sheets-sheets.ensures c.loop-i.i c.index-sheets-i.result c.loop-i-test.true c.index-sheets-i.is c.loop-i.invariant
    c.in_ok-put_sheet.ensures c.in_err-put_formulas_at.ensures)

pub returns : goal.returns
returns g c =
    let end : length c.sheets-sheets.result.now ≤ c.loop-i.i = omega (arith, c.loop-i-test.false, c.loop-i.auto.i-end) in
    sheets-all lines_of_formulas c.args.view.now.book.sheets c.args.view.now.book.contents c.sheets-sheets.result.now c.sheets-sheets.ensures c.loop-i.i end c.loop-i.invariant
