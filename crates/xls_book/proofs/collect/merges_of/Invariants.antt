use Rattle.std.proofs.Common.{◌≡◌, ◌++◌}
use Rattle.xls_book.proofs.collect.merges_of.Given as goal

-- the regions so far, and those that are left
abbrev pub invariant-loop-region : goal.invariant-loop-region
invariant-loop-region l =
    (goal.iterator-loop-region).can_next l.region-iterator ×
    (goal.iterator-loop-region).is_finite l.region-iterator ×
    (l.collected.items ++ l.region-iterator ≡ l.fn.merges)
