use Rattle.std.proofs.Common.{List, subst}
use Rattle.std.specs.Option.{option_copied}
use Rattle.xls_csv.specs.Walk.{Formatted}
use Rattle.xls_tables.proofs.BoxLemmas.{walks_seen}
use Rattle.xls_tables.specs.Rows.{form_fields}
use Rattle.xls_tables.specs.Tables.{DeliversTable}
use Rattle.xls_tables.proofs.table.write_table.Goals as goal

pub returns-clause-dense : goal.returns-clause-dense
returns-clause-dense g c = λ ascending.
    let state = g.K.Sink.state in
    let Delivers = λ (rows : List (List Formatted)). DeliversTable (form_fields c.args.table.now.style c.args.table.now.delimiter c.args.formats.now) c.args.table.now.begins_with_mark rows
    (state c.args.sink.now) (state c.write_rows.new.sink) c.write_rows.result in
    subst Delivers (walks_seen (option_copied c.args.hidden) c.args.table.now.origin c.args.cells.now ascending) c.write_rows.ensures
