use Rattle.std.proofs.Common.{map, sym, ◌∙◌}
use Rattle.xls_biff.specs.SheetTable.{stands_for}
use Rattle.xls_view.specs.Formulas.{Formula}
use Rattle.xls_view.proofs.SurveyLemmas.{formula_found, formula_not_found}
use Rattle.xls_view.proofs.survey.add_formula.Goals as goal

pub returns-in-Some : goal.returns-in-Some
returns-in-Some c = λ s k formulas h found.
    formula_found s k (stands_for s c.args.read.now) c.add.new.self formulas c.in-Some.position (sym c.in-Some.is ∙ c.formula_position.ensures s) h
    (c.add.ensures (map (λ (f : Formula). f.0) formulas) found)

pub returns-in_default : goal.returns-in_default
returns-in_default c = λ s k formulas h found.
    formula_not_found s k (stands_for s c.args.read.now) c.args.found.now formulas (sym c.in_default.is ∙ c.formula_position.ensures s) h found
