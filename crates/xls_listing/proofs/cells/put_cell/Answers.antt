use Rattle.xls_output.proofs.EachLemmas.{puts-memory}
use Rattle.xls_listing.proofs.cells.put_cell.Goals as goal

pub returns-in_err-value : goal.returns-in_err-value
returns-in_err-value g c = puts-memory (g.F.LineForm.is_text c.args.form.now) _ _ _ _ _ c.from_residual.result c.from_residual.ensures.1

pub returns-in_err-text-in-Some : goal.returns-in_err-text-in-Some
returns-in_err-text-in-Some g c =
    let a = c.from_residual-in_err-text-in-Some in
    puts-memory (g.F.LineForm.is_text c.args.form.now) _ _ _ _ _ a.result a.ensures.1
