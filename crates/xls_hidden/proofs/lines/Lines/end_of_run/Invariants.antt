use Rattle.std.proofs.Common.{◌≡◌, ◌-◌, ◌<◌, ◌≤◌, ℕ, Some}
use Rattle.xls_hidden.specs.Lines.{why_at}
use Rattle.xls_hidden.proofs.lines.Lines.end_of_run.Given as goal

abbrev pub invariant-loop-end : goal.invariant-loop-end
invariant-loop-end l =
    (l.first < l.end) × (l.end ≤ l.count) × ((k : ℕ) → l.first ≤ k → k < l.end → why_at l.self k ≡ Some l.why)

abbrev pub decreases-loop-end : goal.decreases-loop-end
decreases-loop-end l = l.count - l.end
