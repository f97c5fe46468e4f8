-- How many things of a topic are damaged.
use Rattle.std.specs.Prelude.{ℕ, ◌-◌, ◌^◌, Bool, List, codes, min}
use Rattle.std.specs.List.{count_by}
use Rattle.std.specs.Str.{bytes_eq}
use Rattle.xls_beside.specs.Lines.{Line}

-- a line tells of something damaged by its word
abbrev pub is_damaged : Line → Bool
is_damaged l = bytes_eq l.word (codes "damaged")

-- how many of these lines do
abbrev pub damaged_among : List Line → ℕ
damaged_among lines = count_by is_damaged lines

-- a number, or the greatest of 64 bits
abbrev pub at_most_counted : ℕ → ℕ
at_most_counted n = min n (2 ^ 64 - 1)
