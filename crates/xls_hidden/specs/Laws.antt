-- A law over runs.
use Rattle.std.specs.Prelude.{◌≡◌, ◌≢◌, ℕ, ◌+◌, ◌<◌, ◌≤◌, List, [], ◌∷◌, ◌&&◌, nat_le, if◌then◌else◌, Option, Some, None}
use Rattle.xls_hidden.specs.declared.lines.Run.{Run}
use Rattle.xls_hidden.specs.declared.lines.Why.{Why}
use Rattle.xls_hidden.specs.Runs.{runs_from}

-- ---- runs

-- why a line can't be seen, by the run that it is in
abbrev pub reason_in : List Run → ℕ → Option Why
reason_in [] line = None
reason_in (r ∷ rs) line = if nat_le r.first line && nat_le line r.last then Some r.why else reason_in rs line

-- a run that begins directly behind another has another reason
abbrev pub Follow : Run → List Run → Type 0
Follow r [] = Unit {0}
Follow r (s ∷ ss) = s.first ≡ r.last + 1 → s.why ≢ r.why

-- runs from a line on: each has a line, and stands behind the one before
abbrev pub Ascend : ℕ → List Run → Type 0
Ascend line [] = Unit {0}
Ascend line (r ∷ rs) = (line ≤ r.first) × (r.first ≤ r.last) × Follow r rs × Ascend (r.last + 1) rs

-- the runs of so many lines from one on say why each can't be seen, and nothing of other lines
pub record Tell (why : ℕ → Option Why) (line n : ℕ) (runs : List Run) : Type 0 where
  pub ascend : Ascend line runs
  pub inside : (k : ℕ) → line ≤ k → k < line + n → reason_in runs k ≡ why k
  pub before : (k : ℕ) → k < line → reason_in runs k ≡ None
  pub behind : (k : ℕ) → line + n ≤ k → reason_in runs k ≡ None

abbrev pub RunsAreLongest : Type 0
RunsAreLongest = (why : ℕ → Option Why) (line n : ℕ) → Tell why line n (runs_from why line n)
