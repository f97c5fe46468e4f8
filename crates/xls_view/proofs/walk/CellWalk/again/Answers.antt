use Rattle.xls_view.proofs.walk.CellWalk.again.Goals as goal

pub invariant_of-result : goal.invariant_of-result
invariant_of-result c = rw c.again.ensures c.self.invariant

pub returns : goal.returns
returns c = rw (c.again.ensures, c.again-2.ensures) c.self.view_is
