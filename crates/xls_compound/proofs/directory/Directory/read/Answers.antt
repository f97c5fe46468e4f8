use Rattle.std.proofs.Common.{sym, subst}
use Rattle.xls_compound.specs.Held.{AreHeld}
use Rattle.xls_compound.proofs.HeldLemmas.{held}
use Rattle.xls_compound.proofs.directory.Directory.read.Goals as goal

pub invariant_of-result : goal.invariant_of-result
invariant_of-result c = subst AreHeld (sym c.in_ok-items.ensures.ok.2) (held c.in_ok-items.ensures.ok.0)
