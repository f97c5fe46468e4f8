use Rattle.std.proofs.Common.{refl}
use Rattle.xls_view.proofs.walk.CellWalk.new.Goals as goal

pub invariant_of-result : goal.invariant_of-result
invariant_of-result c = rw c.new.ensures c.requires

pub returns : goal.returns
returns c = rw (c.new.ensures, c.none.ensures, c.none-2.ensures) refl
