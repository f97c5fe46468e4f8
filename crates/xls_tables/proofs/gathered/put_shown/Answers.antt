use Rattle.std.specs.String.{string_bytes}
use Rattle.xls_tables.specs.Rows.{code_in}
use Rattle.xls_view.specs.Values.{formatted_entry}
use Rattle.xls_tables.proofs.FieldLemmas.{shown_put}
use Rattle.xls_tables.proofs.gathered.put_shown.Goals as goal

pub returns : goal.returns
returns c =
    let view = c.args.formats.now in
    let cell = (formatted_entry c.args.cell).1 in
    shown_put (code_in view cell) view.book.is_1904 _ cell.0 _ (string_bytes c.push_shown.new.buf) c.push_shown.result
    c.in_ok-value.ensures c.clear.ensures.bytes c.push_shown.ensures.ok
