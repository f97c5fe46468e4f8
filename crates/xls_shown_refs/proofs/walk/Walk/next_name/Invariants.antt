use Rattle.std.proofs.Common.{length}
use Rattle.xls_shown_refs.proofs.PassLemmas.{Passes}
use Rattle.xls_shown_refs.proofs.walk.Walk.next_name.Given as goal

abbrev pub invariant-items : goal.invariant-items
invariant-items l = Passes l.fn.names l.fn.self l.self

abbrev pub decreases-items : goal.decreases-items
decreases-items l = length l.self.pending.items
