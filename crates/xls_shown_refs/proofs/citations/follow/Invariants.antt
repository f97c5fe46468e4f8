use Rattle.std.proofs.Common.{length}
use Rattle.xls_shown_refs.specs.Walk.{left_in}
use Rattle.xls_shown_refs.proofs.FollowLemmas.{SoFar}
use Rattle.xls_shown_refs.proofs.citations.follow.Given as goal

abbrev pub invariant-names : goal.invariant-names
invariant-names l = SoFar l.citing l.items.items l.fn.walk l.walk

abbrev pub decreases-names : goal.decreases-names
decreases-names l = length (left_in l.citing l.walk)
