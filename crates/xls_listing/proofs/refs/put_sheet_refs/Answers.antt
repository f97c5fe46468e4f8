use Rattle.std.proofs.Common.{ap, ◌∙◌}
use Rattle.xls_listing.proofs.LineLemmas.{some-all, some-first, some-memory, some-next, some-stopped}
use Rattle.xls_listing.proofs.RefLemmas.{cited_lines, formulas_cited_step}
use Rattle.xls_output.proofs.EachLemmas.{puts-each-stop}
use Rattle.xls_listing.proofs.refs.put_sheet_refs.Goals as goal

pub loop-formula-init : goal.loop-formula-init
loop-formula-init g c = (
  tt,
  tt,
  some-first (g.F.LineForm.is_text c.args.form.now) _ _ _
      (ap (cited_lines c.args.names.now) (c.into_iter-formula-iterator.ensures.into_iter_gives ∙ c.iter-formula-items.ensures)),
)

-- out of memory while the citations of a formula were gathered
pub returns-in_err-formula : goal.returns-in_err-formula
returns-in_err-formula g c =
    puts-each-stop c.from_residual.result c.from_residual.ensures.1 (some-memory c.loop-formula.invariant.2)

pub returns-in_err-put_cites : goal.returns-in_err-put_cites
returns-in_err-put_cites g c =
    let step = rw c.in_ok-formula.was at c.in-Some.ensures.steps in
    let a = c.from_residual-in_err-put_cites in
    puts-each-stop a.result a.ensures.1
    (some-stopped _ c.loop-formula.invariant.2 (formulas_cited_step c.args.names.now _ _ _ step) c.in_err-put_cites.ensures)

pub loop-formula-preserved : goal.loop-formula-preserved
loop-formula-preserved g c =
    let step = rw c.in_ok-formula.was at c.in-Some.ensures.steps in
    (tt, tt, some-next c.loop-formula.invariant.2 (formulas_cited_step c.args.names.now _ _ _ step) c.in_ok-put_cites.ensures)

pub returns : goal.returns
returns g c = some-all c.loop-formula.invariant.2 (ap (cited_lines c.args.names.now) c.in-None.ensures.steps.0)
