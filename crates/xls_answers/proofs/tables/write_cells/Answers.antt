use Rattle.std.proofs.Common.{List, subst}
use Rattle.xls_view.specs.Formats.{FormattedCell}
use Rattle.std.specs.Option.{option_copied}
use Rattle.xls_answers.specs.Sheets.{WritesCells}
use Rattle.xls_answers.proofs.SheetLemmas.{cells-written}
use Rattle.xls_answers.proofs.tables.write_cells.Goals as goal

pub returns : goal.returns
returns g c =
    let state = g.K.Sink.state in
    let table = c.args.table.now in
    let view = c.args.formats.now in
    let hidden = option_copied c.args.hidden in
    let entries = c.args.sheet.now.cells in
    subst (λ (cells : List FormattedCell). WritesCells table hidden view entries cells (state c.args.sink.now) (state c.write_table.new.sink) c.write_table.result)
    c.in_ok-cells-2.ensures.cells
    (cells-written table hidden view entries _ _ _ c.write_table.result c.if-table.false (c.write_table.ensures.dense c.in_ok-cells-2.ensures.ordered))
