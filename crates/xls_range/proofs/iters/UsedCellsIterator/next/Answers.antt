use Rattle.std.proofs.Common.{refl}
use Rattle.xls_range.proofs.iters.UsedCellsIterator.next.Goals as goal

-- the first cell that is not blank, and no other is passed over
pub returns-then-not-is_blank-clause-exact : goal.returns-then-not-is_blank-clause-exact
returns-then-not-is_blank-clause-exact g c =
    rw (← c.self.view_is, ← c.loop-cell.invariant.1, c.in-Some.ensures.steps, ← c.if-not-is_blank.ensures) refl
