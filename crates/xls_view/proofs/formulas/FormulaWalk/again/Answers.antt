use Rattle.xls_view.proofs.formulas.FormulaWalk.again.Goals as goal

pub returns : goal.returns
returns c = rw c.again.ensures c.self.view_is
