use Rattle.std.proofs.Common.{ap, ◌∙◌}
use Rattle.xls_listing.proofs.LineLemmas.{some-all, some-first, some-next, some-stopped}
use Rattle.xls_listing.proofs.DisplayedLemmas.{formulas_step, token_lines}
use Rattle.xls_output.proofs.EachLemmas.{puts-each-stop}
use Rattle.xls_listing.proofs.formulas.put_formulas.Goals as goal

pub loop-formula-init : goal.loop-formula-init
loop-formula-init g c = (
  tt,
  tt,
  some-first (g.F.LineForm.is_text c.args.form.now) _ _ _
      (ap (token_lines c.args.formulas.now.context) (c.into_iter-formula-iterator.ensures.into_iter_gives ∙ c.iter-formula-items.ensures)),
)

pub loop-formula-preserved : goal.loop-formula-preserved
loop-formula-preserved g c =
    (tt, tt, some-next c.loop-formula.invariant.2 (formulas_step c.args.formulas.now.context _ _ _ c.in-Some.ensures.steps) c.in_ok-put_formula_of.ensures)

pub returns-in_err-put_formula_of : goal.returns-in_err-put_formula_of
returns-in_err-put_formula_of g c =
    puts-each-stop c.from_residual.result c.from_residual.ensures.1
    (some-stopped _ c.loop-formula.invariant.2 (formulas_step c.args.formulas.now.context _ _ _ c.in-Some.ensures.steps) c.in_err-put_formula_of.ensures)

pub returns : goal.returns
returns g c = some-all c.loop-formula.invariant.2 (ap (token_lines c.args.formulas.now.context) c.in-None.ensures.steps.0)
