use Rattle.xls_csv.specs.Boxes.{lent_view, IsSeparated}
use Rattle.xls_output.proofs.EachLemmas.{puts-memory, puts-one}
use Rattle.xls_csv.proofs.RowLemmas.{separated_added}
use Rattle.xls_csv.proofs.boxes.put_separated.Goals as goal

-- out of memory at the field
pub returns-in_err-push_field-clause-puts : goal.returns-in_err-push_field-clause-puts
returns-in_err-push_field-clause-puts g c =
    let a = c.from_residual-in_err-push_field in
    puts-memory (IsSeparated (g.B.BoxBuffer.fields c.args.form (lent_view c.args.formats))) _ _ _ _ _ a.result a.ensures.1

pub returns-clause-puts : goal.returns-clause-puts
returns-clause-puts g c =
    let form = g.B.BoxBuffer.fields c.args.form (lent_view c.args.formats) in
    let field = separated_added form _ _ c.in_ok-push_delimiter.ensures c.in_ok-push_field.ensures in
    rw c.take_at.ensures (puts-one (IsSeparated form) _ _ _ _ _ _ c.pass.result field c.pass.ensures.puts)
