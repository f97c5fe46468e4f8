use Rattle.std.proofs.Common.{◌≡◌, length, map}
use Rattle.std.specs.Prelude.{IsTrue}
use Rattle.xls_rows.proofs.ReadLemmas.{following}
use Rattle.example_rows.specs.Fields.{field_view, fields_in}
use Rattle.example_rows.proofs.fields.FieldsFromRow.from_row.Given as goal

-- the row has headers, and what was read before the fields that are left is what is to be read
abbrev pub invariant-loop-header : goal.invariant-loop-header
invariant-loop-header g l =
    IsTrue l.row.named ×
    (fields_in g.T.ReadCell.content l.pos l.fn.row
    ≡ following (map field_view l.fields.items) (fields_in g.T.ReadCell.content l.pos l.row))

abbrev pub decreases-loop-header : goal.decreases-loop-header
decreases-loop-header g l = length l.row.exposed
