use Rattle.std.specs.String.{string_bytes}
use Rattle.xls_view.specs.Values.{formatted_entry}
use Rattle.xls_cell_formats.specs.CellCodes.{code_of_xf}
use Rattle.xls_arrays.proofs.ShownLemmas.{shown-put}
use Rattle.xls_arrays.proofs.shown.put_shown.Goals as goal

pub returns : goal.returns
returns c =
    let view = c.args.formats.now in
    let cell = (formatted_entry c.args.cell).1 in
    shown-put (code_of_xf view.codes view.identifiers cell.1) view.book.is_1904 _ cell.0 _ (string_bytes c.push_shown.new.buf)
    c.push_shown.result c.in_ok-value.ensures c.clear.ensures.bytes c.push_shown.ensures.ok
