use Rattle.std.proofs.Common.{◌≡◌, length, ◌+◌, ◌≤◌}
use Rattle.xls_biff.specs.Outer.{Skips}
use Rattle.xls_biff.proofs.substream.next_outer.Given as goal

abbrev pub invariant-loop-item : goal.invariant-loop-item
invariant-loop-item l =
    (goal.iterator-loop-item).can_next l.records ×
    (goal.iterator-loop-item).is_finite l.records ×
    Skips l.fn.records l.fn.depth l.records l.depth ×
    (l.depth + length l.records ≤ l.fn.depth + length l.fn.records) ×
    (l.start ≡ l.records)
