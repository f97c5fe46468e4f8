use Rattle.std.proofs.lemmas.Result.{on_ok_weaker}
use Rattle.xls_view.specs.Values.{formatted_entry}
use Rattle.xls_arrays.proofs.ShownLemmas.{lays-shown}
use Rattle.xls_arrays.proofs.shown.lay_shown_cell.Goals as goal

pub returns-clause-ok : goal.returns-clause-ok
returns-clause-ok c =
    on_ok_weaker c.lay_cell_item.result
    (lays-shown c.args.formats.now (formatted_entry c.args.cell) _ c.as_str.utf8 c.as_str.ensures.value c.in_ok-put_shown.ensures
    c.in_ok-text.ensures.ok c.text_item.ensures)
    c.lay_cell_item.ensures.ok
