use Rattle.std.proofs.Common.{[], false, refl}
use Rattle.xls_view.proofs.formulas.formula_of.Goals as goal
use Rattle.xls_view.proofs.formulas.formula_of.Goals.{in-Ok, in-Err}

-- position and tokens are the same under all classes and date systems
pub returns : goal.returns
returns c =
    elim c.match-read_formula.branch [
      | in-Ok w ↦ rw (w.result-is, c.if-r-ne-FORMULA.false, w.in-Ok.ensures [] false) refl
      | in-Err w ↦ rw (w.result-is, c.if-r-ne-FORMULA.false, w.in-Err.ensures [] false) refl
    ]
