use Rattle.std.proofs.Common.{◌≡◌, length}
use Rattle.xls_compound.specs.Steps.{at_first, GoesOn, left_to_do}
use Rattle.xls_compound.proofs.walk.items_of.Given as goal

-- all that is read from here on is read from the first task on
abbrev pub invariant-tasks : goal.invariant-tasks
invariant-tasks l = record {
  size : length l.walk.met ≡ length l.entries;
  reads : GoesOn l.entries (at_first l.first (length l.entries)) l.walk;
}

abbrev pub decreases-tasks : goal.decreases-tasks
decreases-tasks l = left_to_do l.walk
