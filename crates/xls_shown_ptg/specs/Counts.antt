-- The counts of operands of a call without a count of its own (PtgFunc): those of the functions' table but for some.
-- Those of functions of macro sheets rest on [MS-XLS] Ftab alone: no file was seen that uses them.
use Rattle.std.specs.Prelude.{ℕ, List, [], ◌∷◌, ◌==◌, if◌then◌else◌}
use Rattle.xls_shown_ptg.specs.declared.counts.TheConstants.{COUNTS}

-- the count in the row of a function, and another where it has none
abbrev pub count_in : List (ℕ × ℕ) → ℕ → ℕ → ℕ
count_in [] iftab count = count
count_in (row ∷ rows) iftab count = if row.0 == iftab then row.1 else count_in rows iftab count

abbrev pub operand_count : ℕ → ℕ → ℕ
operand_count iftab count = count_in COUNTS iftab count
