use Rattle.std.proofs.Common.{ap, map}
use Rattle.xls_view.specs.Formulas.{text_entry}
use Rattle.xls_arrays.specs.Arrays.{with_formula}
use Rattle.xls_arrays.proofs.LaidLemmas.{partly-all, partly-next}
use Rattle.xls_arrays.proofs.formulas.lay_formulas.Goals as goal

pub loop-formula-preserved : goal.loop-formula-preserved
loop-formula-preserved c =
    let texts = map (text_entry c.args.formulas.now.context) in
    partly-next with_formula c.loop-formula.invariant (ap texts c.in-Some.ensures.steps) c.in_ok-lay_formula.ensures.same c.in_ok-lay_formula.ensures.ok

pub returns-clause-ok : goal.returns-clause-ok
returns-clause-ok c =
    partly-all with_formula c.loop-formula.invariant (ap (map (text_entry c.args.formulas.now.context)) c.in-None.ensures.steps.0)
