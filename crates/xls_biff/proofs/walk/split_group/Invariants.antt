use Rattle.std.proofs.Common.{length}
use Rattle.xls_stream.specs.Stream.{Gathers}
use Rattle.xls_biff.proofs.walk.split_group.Given as goal

abbrev pub invariant-loop-after : goal.invariant-loop-after
invariant-loop-after l = Gathers l.start l.after

abbrev pub decreases-loop-after : goal.decreases-loop-after
decreases-loop-after l = length l.after
