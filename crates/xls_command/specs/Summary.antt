-- What is written of a made stream of so many rows.
use Rattle.std.specs.Prelude.{ℕ, ◌-◌, ◌*◌, ◌/◌, List, [], ◌∷◌, ◌++◌, codes}
use Rattle.std.specs.Fmt.{decimal}
use Rattle.xls_lines.specs.Lines.{line}

-- a word and a number
abbrev pub count_line : List ℕ → ℕ → List ℕ
count_line word n = line word (decimal n ∷ [])

-- the height of the range, how many of its cells are used, and the sum of its whole numbers
abbrev pub counts_text : ℕ → ℕ → ℕ → List ℕ
counts_text rows cells sum =
    count_line (codes "rows") rows ++ (count_line (codes "cells") cells ++ count_line (codes "sum") sum)

-- two used cells in each row, of which one is the row's number
abbrev pub summary_text : ℕ → List ℕ
summary_text n = counts_text n (2 * n) (n * (n - 1) / 2)
