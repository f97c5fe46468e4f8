use Rattle.std.proofs.Common.{[], refl}
use Rattle.xls_output.proofs.OutputLemmas.{gathers-added, gathers-after, gathers-nothing}
use Rattle.xls_csv.specs.Boxes.{lent_view}
use Rattle.xls_csv.proofs.RowLemmas.{puts_fields_stop, row_all, row_first, row_memory, row_stop_first, row_stop_others}
use Rattle.xls_csv.proofs.boxes.put_fields.Goals as goal

-- no column
pub returns-then-extent-eq0-clause-puts : goal.returns-then-extent-eq0-clause-puts
returns-then-extent-eq0-clause-puts g c = rw c.if-extent-eq0.true ([], (refl, refl), gathers-nothing _)

-- out of memory at the first field
pub returns-in_err-is_empty-clause-puts : goal.returns-in_err-is_empty-clause-puts
returns-in_err-is_empty-clause-puts g c =
    puts_fields_stop _ _ c.from_residual.result c.from_residual.ensures.1 (row_memory _ _ _ (gathers-nothing _))

pub returns-in_err-pass-clause-puts : goal.returns-in_err-pass-clause-puts
returns-in_err-pass-clause-puts g c =
    let (field, (is, _), e) = c.in_ok-is_empty.ensures in
    let row = row_first c.args.row c.args.extent.left c.args.extent.width _ _ _ c.take_at.ensures c.if-extent-eq0.false in
    let a = c.from_residual-in_err-pass in
    puts_fields_stop _ _ a.result a.ensures.1
    (row_stop_first (g.B.BoxBuffer.fields c.args.form (lent_view c.args.formats)) _ _ row.0 is (gathers-added _ _ field e) c.in_err-pass.ensures.puts)

pub returns-in_err-put_others-clause-puts : goal.returns-in_err-put_others-clause-puts
returns-in_err-put_others-clause-puts g c =
    let (field, (is, _), e) = c.in_ok-is_empty.ensures in
    let row = row_first c.args.row c.args.extent.left c.args.extent.width _ _ _ c.take_at.ensures c.if-extent-eq0.false in
    let first = gathers-after (gathers-added _ _ field e) c.in_ok-pass.ensures.puts in
    let a = c.from_residual-in_err-put_others in
    puts_fields_stop _ _ a.result a.ensures.1
    (row_stop_others (g.B.BoxBuffer.fields c.args.form (lent_view c.args.formats)) _ _ row.0 is first c.in_err-put_others.ensures.puts)

pub returns-then-is_empty-clause-puts : goal.returns-then-is_empty-clause-puts
returns-then-is_empty-clause-puts g c =
    let (field, (is, t), e) = c.in_ok-is_empty.ensures in
    let row = row_first c.args.row c.args.extent.left c.args.extent.width _ _ _ c.take_at.ensures c.if-extent-eq0.false in
    let first = gathers-after (gathers-added _ _ field e) c.in_ok-pass.ensures.puts in
    row_all (g.B.BoxBuffer.fields c.args.form (lent_view c.args.formats)) _ _ _ row.0 row.1 is t (rw c.if-is_empty.true refl) first c.in_ok-put_others.ensures.puts

pub returns-else-is_empty-clause-puts : goal.returns-else-is_empty-clause-puts
returns-else-is_empty-clause-puts g c =
    let (field, (is, t), e) = c.in_ok-is_empty.ensures in
    let row = row_first c.args.row c.args.extent.left c.args.extent.width _ _ _ c.take_at.ensures c.if-extent-eq0.false in
    let first = gathers-after (gathers-added _ _ field e) c.in_ok-pass.ensures.puts in
    row_all (g.B.BoxBuffer.fields c.args.form (lent_view c.args.formats)) _ _ _ row.0 row.1 is t (rw c.if-is_empty.false refl) first c.in_ok-put_others.ensures.puts
