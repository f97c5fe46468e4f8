use Rattle.std.proofs.Common.{IsUtf8, rules}
use Rattle.std.proofs.lemmas.Result.{on_ok_weaker}
use Rattle.xls_view.specs.Values.{cell_entry}
use Rattle.xls_arrays.proofs.LaidLemmas.{lays-cell}
use Rattle.xls_arrays.proofs.TextLemmas.{text-laid}
use Rattle.xls_arrays.proofs.cells.lay_cell.Goals as goal

pub returns-clause-ok : goal.returns-clause-ok
returns-clause-ok c =
    let utf8 : IsUtf8 c.in_ok-text_of.field-0.now = search rules in
    on_ok_weaker c.lay_cell_item.result
    (lays-cell _ (cell_entry c.args.cell) c.in_ok-text.ensures.ok (text-laid _ utf8 c.args.cell.value c.in_ok-text_of.ensures) c.cell_item.ensures)
    c.lay_cell_item.ensures.ok
