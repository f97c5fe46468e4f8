use Rattle.xls_output.proofs.OutputLemmas.{gathers-added, gathers-after, stops-after}
use Rattle.xls_csv.specs.Boxes.{lent_view}
use Rattle.xls_csv.proofs.SeenLemmas.{next_memory, next_unwritten}
use Rattle.xls_csv.proofs.seen.put_next.Goals as goal

pub returns-in_err-is_empty : goal.returns-in_err-is_empty
returns-in_err-is_empty g c =
    next_memory (g.B.BoxBuffer.fields c.args.form (lent_view c.args.formats)) _ _ _ _ _ _ c.from_residual.result c.from_residual.ensures.1

pub returns-in_err-pass : goal.returns-in_err-pass
returns-in_err-pass g c =
    let (text, (is, _), e) = c.in_ok-is_empty.ensures in
    let a = c.from_residual-in_err-pass in
    next_unwritten (g.B.BoxBuffer.fields c.args.form (lent_view c.args.formats)) _ _ a.result a.ensures.1 is
    (stops-after (gathers-added _ _ text e) c.in_err-pass.ensures.puts)

pub returns : goal.returns
returns g c =
    let (text, is, e) = c.in_ok-is_empty.ensures in
    (text, is, gathers-after (gathers-added _ _ text e) c.in_ok-pass.ensures.puts)
