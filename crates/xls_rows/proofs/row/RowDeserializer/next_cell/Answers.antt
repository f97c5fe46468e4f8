use Rattle.xls_rows.specs.HeaderTexts.{header_texts}
use Rattle.xls_rows.proofs.RowLemmas.{within_rest}
use Rattle.xls_rows.proofs.row.RowDeserializer.next_cell.Goals as goal

pub invariant_of-self : goal.invariant_of-self
invariant_of-self g c = within_rest (header_texts c.self.inside.headers) c.self.inside.cells.now c.self.inside.column_indexes.now c.in-Some.first c.in-Some.others.now c.in-Some.ensures c.self.invariant
