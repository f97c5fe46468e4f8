use Rattle.std.proofs.Common.{Err}
use Rattle.std.specs.String.{string_bytes}
use Rattle.xls_data.specs.Data.{content_of}
use Rattle.example_rows.specs.Entries.{parts_of}
use Rattle.example_rows.proofs.EntryLemmas.{entry_of, first_read, first_refused}
use Rattle.example_rows.proofs.entry.EntryFromRow.from_row.Goals as goal

-- the amount is refused
pub returns-in-Err-read_data : goal.returns-in-Err-read_data
returns-in-Err-read_data g c =
    let refusal = c.in-Err-read_data.refusal in
    entry_of g.T.ReadCell.content c.args.row.now c.next_cell.new.self c.position-pos.result
    c.in-Some-Some.name.now c.in-Some-Some.amount.now (Err refusal)
    c.position-pos.ensures c.in-Some-Some.ensures.cell
    c.next_cell.ensures.row c.in-Some-Some.ensures'.cell
    (first_read string_bytes parts_of c.in-Ok.name (Err refusal) _ _ c.in-Ok.ensures
    (first_refused content_of parts_of refusal _ _ c.in-Err-read_data.ensures))

-- the amount is no number
pub returns-in-Err-number_of : goal.returns-in-Err-number_of
returns-in-Err-number_of g c =
    let refusal = c.in-Err-number_of.refusal in
    entry_of g.T.ReadCell.content c.args.row.now c.next_cell.new.self c.position-pos.result
    c.in-Some-Some.name.now c.in-Some-Some.amount.now (Err refusal)
    c.position-pos.ensures c.in-Some-Some.ensures.cell
    c.next_cell.ensures.row c.in-Some-Some.ensures'.cell
    (first_read string_bytes parts_of c.in-Ok.name (Err refusal) _ _ c.in-Ok.ensures
    (first_read content_of parts_of c.in-Ok-read_data.amount (Err refusal) _ _ c.in-Ok-read_data.ensures
    (first_refused (λ n. n) parts_of refusal _ _ c.in-Err-number_of.ensures)))
