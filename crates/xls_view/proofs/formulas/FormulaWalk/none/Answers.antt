use Rattle.std.proofs.Common.{ap}
use Rattle.xls_view.specs.Formulas.{formulas_kept}
use Rattle.xls_view.proofs.WalkLemmas.{kept_nothing}
use Rattle.xls_view.proofs.formulas.FormulaWalk.none.Goals as goal

pub returns : goal.returns
returns c = rw c.new.ensures (ap formulas_kept (kept_nothing 0))
