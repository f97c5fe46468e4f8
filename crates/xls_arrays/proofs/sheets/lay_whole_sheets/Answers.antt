use Rattle.std.proofs.Common.{◌≡◌, ◌≤◌, length, slice_get, sym, ap, subst, ◌∙◌, arith}
use Rattle.std.proofs.lemmas.List.{length-map}
use Rattle.xls_data.specs.Sheets.{sheet_content}
use Rattle.xls_view.specs.Viewing.{Viewed}
use Rattle.xls_arrays.specs.Arrays.{with_sheet}
use Rattle.xls_arrays.specs.Classed.{classed_book}
use Rattle.xls_arrays.specs.Displayed.{content_in}
use Rattle.xls_arrays.specs.Filled.{Lays}
use Rattle.xls_arrays.proofs.LaidLemmas.{partly-all, partly-next}
use Rattle.xls_arrays.proofs.DisplayedLemmas.{each-end, each-step, mapped}
use Rattle.xls_arrays.proofs.sheets.lay_whole_sheets.Goals as goal

pub loop-i-preserved : goal.loop-i-preserved
loop-i-preserved c =
    let i = c.loop-i.i in
    let book = classed_book c.args.view.now in
    let sheet = c.index-sheets-i.result in
    let here = mapped sheet_content c.sheets-sheets.result.now book.sheets i sheet
    c.loop-i-test.true c.index-sheets-i.is c.sheets-sheets.ensures in
    partly-next with_sheet c.loop-i.invariant (each-step book.sheets book.contents i (sheet_content sheet) here)
    c.in_ok-lay_whole_sheet.ensures.same
    (subst (λ (v : Viewed). Lays c.loop-i.rooms c.lay_whole_sheet.new.rooms
    (λ a. with_sheet a (sheet_content sheet, content_in (slice_get (classed_book v).contents i))))
    c.in_ok-formats.ensures c.in_ok-lay_whole_sheet.ensures.ok)

pub returns-clause-ok : goal.returns-clause-ok
returns-clause-ok c =
    let i = c.loop-i.i in
    let book = classed_book c.args.view.now in
    let same : length book.sheets ≡ length c.sheets-sheets.result.now =
    ap length (sym c.sheets-sheets.ensures) ∙ length-map c.sheets-sheets.result.now sheet_content in
    let all : length book.sheets ≤ i = omega (arith, same, c.loop-i-test.false, c.loop-i.auto.i-end) in
    partly-all with_sheet c.loop-i.invariant (each-end book.sheets book.contents i all)
