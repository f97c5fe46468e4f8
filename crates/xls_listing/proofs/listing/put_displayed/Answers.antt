use Rattle.std.proofs.Common.{◌++◌, append_assoc, ap, map, sym, ◌∙◌}
use Rattle.xls_view.specs.Displayed.{sheet_view_of}
use Rattle.xls_output.specs.Output.{output_of}
use Rattle.xls_listing.specs.Listing.{lines_of_cells, lines_of_formulas, lines_of_merges, listed_sheet, merge_line}
use Rattle.xls_output.proofs.EachLemmas.{each-stops-as, each-stops-more, each-stops-then, each-then, puts-as, puts-each-stop, puts-then}
use Rattle.xls_listing.proofs.ReadingLemmas.{sheet_view}
use Rattle.xls_listing.proofs.listing.put_displayed.Goals as goal

pub returns-in_err-put_displayed_cells : goal.returns-in_err-put_displayed_cells
returns-in_err-put_displayed_cells g c =
    let s = listed_sheet c.args.reader.now (sheet_view_of c.args.sheet.now) c.args.sheet.now.formatted in
    puts-each-stop c.from_residual.result c.from_residual.ensures.1
    (each-stops-more (lines_of_formulas s.view ++ lines_of_merges s.view) c.in_err-put_displayed_cells.ensures)

pub returns-in_err-put_displayed_formulas : goal.returns-in_err-put_displayed_formulas
returns-in_err-put_displayed_formulas g c =
    let a = c.from_residual-in_err-put_displayed_formulas in
    let v = sheet_view_of c.args.sheet.now in
    let s = listed_sheet c.args.reader.now v c.args.sheet.now.formatted in
    let same = sheet_view c.args.reader.now v c.args.sheet.now.formatted in
    puts-each-stop a.result a.ensures.1
    (each-stops-then c.in_ok-put_displayed_cells.ensures
    (each-stops-more (lines_of_merges s.view) (each-stops-as c.in_err-put_displayed_formulas.ensures (ap lines_of_formulas (sym same)))))

pub returns : goal.returns
returns g c =
    let out = output_of g.K.Sink.state g.F.Buffer.Gathers.kept in
    let v = sheet_view_of c.args.sheet.now in
    let s = listed_sheet c.args.reader.now v c.args.sheet.now.formatted in
    let same = sheet_view c.args.reader.now v c.args.sheet.now.formatted in
    let is = g.F.LineForm.is_text c.args.form.now in
    let before = each-then c.in_ok-put_displayed_cells.ensures c.in_ok-put_displayed_formulas.ensures in
    puts-as is (out c.args.out.now) (out c.put_merges.new.out) c.put_merges.result
    (append_assoc (lines_of_cells s.cells) (lines_of_formulas v) (lines_of_merges v)
    ∙ ap (λ w. lines_of_cells s.cells ++ (lines_of_formulas w ++ lines_of_merges w)) (sym same))
    (puts-then is (lines_of_cells s.cells ++ lines_of_formulas v) (lines_of_merges v)
    (out c.put_merges.new.out) c.put_merges.result before
    (puts-as is _ (out c.put_merges.new.out) c.put_merges.result (ap (map merge_line) c.merges.ensures) c.put_merges.ensures))
