use Rattle.std.proofs.Common.{refl}
use Rattle.xls_view.proofs.formulas.FormulaWalk.new.Goals as goal

pub returns : goal.returns
returns c = rw c.new.ensures refl
