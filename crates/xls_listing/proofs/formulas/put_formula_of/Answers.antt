use Rattle.xls_output.proofs.EachLemmas.{puts-memory}
use Rattle.xls_listing.proofs.formulas.put_formula_of.Goals as goal

pub returns-in_err-text : goal.returns-in_err-text
returns-in_err-text g c = puts-memory (g.F.LineForm.is_text c.args.form.now) _ _ _ _ _ c.from_residual.result c.from_residual.ensures.1
