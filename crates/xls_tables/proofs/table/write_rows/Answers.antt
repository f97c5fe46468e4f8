use Rattle.std.proofs.Common.{◌++◌, List, ap, ℕ, ◌∙◌}
use Rattle.std.specs.Option.{option_copied}
use Rattle.xls_tables.specs.Rows.{form_fields}
use Rattle.xls_tables.specs.Tables.{byte_order_mark, table_walk}
use Rattle.xls_tables.proofs.TableLemmas.{delivers_stop, table_memory}
use Rattle.xls_tables.proofs.table.write_rows.Goals as goal

pub returns-in_err-push_mark : goal.returns-in_err-push_mark
returns-in_err-push_mark g c =
    let form = form_fields c.args.table.now.style c.args.table.now.delimiter c.args.formats.now in
    let table = table_walk (option_copied c.args.hidden) c.args.table.now.origin c.args.cells.now in
    let r = c.from_residual in
    delivers_stop form c.args.table.now.begins_with_mark table _ _ r.result r.ensures.1 (table_memory form c.args.table.now.begins_with_mark table _)

pub returns : goal.returns
returns g c =
    let is_marked = c.args.table.now.begins_with_mark in
    c.write_box.ensures is_marked
    (c.in_ok-push_mark.ensures ∙ ap (λ (t : List ℕ). t ++ byte_order_mark is_marked) c.new-gathered.ensures)
