use Rattle.std.proofs.Common.{◌≡◌, ◌-◌, ◌≤◌}
use Rattle.xls_hidden.specs.Runs.{runs_from}
use Rattle.xls_hidden.specs.Lines.{why_at}
use Rattle.xls_hidden.proofs.lines.Lines.first_unseen.Given as goal

abbrev pub invariant-loop-line : goal.invariant-loop-line
invariant-loop-line l =
    (runs_from (why_at l.self) l.from (l.count - l.from) ≡ runs_from (why_at l.self) l.line (l.count - l.line))
    × (l.line ≤ l.count)

abbrev pub decreases-loop-line : goal.decreases-loop-line
decreases-loop-line l = l.count - l.line
