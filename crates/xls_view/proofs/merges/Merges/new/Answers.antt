use Rattle.std.proofs.Common.{refl}
use Rattle.xls_view.proofs.merges.Merges.new.Goals as goal

pub returns : goal.returns
returns c = rw (c.new.ensures, c.none.ensures) refl
