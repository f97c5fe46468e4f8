use Rattle.std.proofs.Common.{◌<◌}
use Rattle.test_compound.proofs.files.sum_of.Given as goal

abbrev pub invariant-loop-byte : goal.invariant-loop-byte
invariant-loop-byte l = (l.sum < 65_521) × (l.place < 65_521)
