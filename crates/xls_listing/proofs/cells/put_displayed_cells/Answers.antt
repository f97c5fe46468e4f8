use Rattle.std.proofs.Common.{ap, map, ◌∙◌}
use Rattle.xls_view.specs.Displayed.{sheet_view_of}
use Rattle.xls_output.specs.Output.{output_of}
use Rattle.xls_listing.specs.Listing.{lines_of_cells, listed_cell, listed_sheet}
use Rattle.xls_output.proofs.EachLemmas.{puts-as, puts-memory}
use Rattle.xls_listing.proofs.ReadingLemmas.{sheet_cells}
use Rattle.xls_listing.proofs.cells.put_displayed_cells.Goals as goal

pub returns-in_err-cells : goal.returns-in_err-cells
returns-in_err-cells g c = puts-memory (g.F.LineForm.is_text c.args.form.now) _ _ _ _ _ c.from_residual.result c.from_residual.ensures.1

pub returns : goal.returns
returns g c =
    let out = output_of g.K.Sink.state g.F.Buffer.Gathers.kept in
    let reader = c.args.reader.now in
    let v = sheet_view_of c.args.sheet.now in
    puts-as (g.F.LineForm.is_text c.args.form.now) (out c.args.out.now) (out c.put_cells.new.out) c.put_cells.result
    (ap lines_of_cells
    (ap (map (listed_cell reader)) c.iter.ensures ∙ sheet_cells reader v _ c.in_ok-cells.ensures.plain
    ∙ ap (λ fs. (listed_sheet reader v fs).cells) c.in_ok-cells.ensures.cells))
    c.put_cells.ensures
