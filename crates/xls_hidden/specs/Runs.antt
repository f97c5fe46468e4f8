-- Runs of rows or columns that can't be seen.
use Rattle.std.specs.Prelude.{ℕ, zero, suc, ◌+◌, List, [], ◌∷◌, Bool, true, false, ◌&&◌, ◌==◌, if◌then◌else◌, Option, Some, None}
use Rattle.xls_hidden.specs.declared.lines.Run.{Run}
use Rattle.xls_hidden.specs.declared.lines.Why.{Why}
use Rattle.xls_hidden.specs.declared.lines.Why.TheVariants.{Hidden, Filtered, Flat}

abbrev pub is_same : Why → Why → Bool
is_same Hidden Hidden = true
is_same Filtered Filtered = true
is_same Flat Flat = true
is_same a b = false

-- a line joins the run that begins directly behind it for the same reason, and is else a run of its own
abbrev pub join : ℕ → Why → List Run → List Run
join line why [] = record { first = line; last = line; why = why } ∷ []
join line why (r ∷ rs) =
    if is_same why r.why && r.first == line + 1
    then record { first = line; last = r.last; why = why } ∷ rs
    else record { first = line; last = line; why = why } ∷ r ∷ rs

-- a line that can be seen is in no run
abbrev pub with_line : ℕ → Option Why → List Run → List Run
with_line line None runs = runs
with_line line (Some why) runs = join line why runs

-- the runs of so many lines from this one on, each with why it can't be seen
unfoldable pub runs_from : (ℕ → Option Why) → ℕ → ℕ → List Run
runs_from why line zero = []
runs_from why line (suc n) = with_line line (why line) (runs_from why (line + 1) n)
