use Rattle.std.proofs.Common.{refl}
use Rattle.xls_rows.specs.Readers.{is_empty_cell}
use Rattle.example_rows.proofs.FieldLemmas.{next_field, no_field}
use Rattle.example_rows.proofs.fields.next_field.Goals as goal

-- no key is left
pub returns-in_default : goal.returns-in_default
returns-in_default g c =
    no_field (λ x. is_empty_cell (g.T.ReadCell.content x)) c.args.row.now (c.in_default.ensures.none.0 refl)

-- a key and its value
pub returns : goal.returns
returns g c =
    next_field (λ x. is_empty_cell (g.T.ReadCell.content x)) c.args.row.now c.next_key.new.self
    c.next_value.new.self c.in-Some.header.now c.in-Ok.cell.now
    c.in-Some.ensures.key c.in-Some.ensures.row c.in-Ok.ensures.value c.in-Ok.ensures.row
