use Rattle.std.proofs.Common.{refl}
use Rattle.xls_data.specs.Sheets.{sheet_content}
use Rattle.xls_data.specs.declared.sheets.Sheet.{Sheet}
use Rattle.xls_listing.specs.Listing.{sheet_line}
use Rattle.xls_listing.proofs.LineLemmas.{some-first, some-next, some-stopped}
use Rattle.xls_listing.proofs.DisplayedLemmas.{drop_step}
use Rattle.xls_output.proofs.EachLemmas.{puts-each-stop}
use Rattle.xls_listing.proofs.sheets.put_sheets.Goals as goal

pub loop-sheet-init : goal.loop-sheet-init
loop-sheet-init g c = some-first (g.F.LineForm.is_text c.args.form.now) _ _ _ refl

pub loop-sheet-preserved : goal.loop-sheet-preserved
loop-sheet-preserved g c =
    some-next c.loop-sheet.invariant
    (drop_step (λ (s : Sheet). sheet_line (sheet_content s)) c.args.sheets.now c.loop-sheet.sheet-index _ c.loop-sheet-test.true c.sheet-item.is)
    c.in_ok-put_sheet.ensures

pub returns-in_err-put_sheet : goal.returns-in_err-put_sheet
returns-in_err-put_sheet g c =
    puts-each-stop c.from_residual.result c.from_residual.ensures.1
    (some-stopped _ c.loop-sheet.invariant
    (drop_step (λ (s : Sheet). sheet_line (sheet_content s)) c.args.sheets.now c.loop-sheet.sheet-index _ c.loop-sheet-test.true c.sheet-item.is)
    c.in_err-put_sheet.ensures)
