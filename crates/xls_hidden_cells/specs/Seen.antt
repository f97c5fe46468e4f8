-- What can be seen of the rows and columns of a sheet.
use Rattle.std.specs.Prelude.{ℕ, ◌+◌, Bool, List, [], ◌∷◌, map, is_some, if◌then◌else◌, ◌||◌}
use Rattle.xls_hidden.specs.Hidden.{Hidden}
use Rattle.xls_hidden.specs.Lines.{Table, why_at}

-- a row or a column can't be seen, for whatever reason
abbrev pub is_hidden : Table → ℕ → Bool
is_hidden table line = is_some (why_at table line)

-- the items of a list that can be seen, each by its row or column, where the first stands in this one
abbrev pub seen_from : {T : Type 0} → Table → ℕ → List T → List T
seen_from table line [] = []
seen_from table line (x ∷ xs) =
    if is_hidden table line then seen_from table (line + 1) xs else x ∷ seen_from table (line + 1) xs

-- the rows of a box that can be seen, each without the fields of columns that can't, where the box begins with this row
-- and this column
abbrev pub seen_rows : {T : Type 0} → Hidden → ℕ → ℕ → List (List T) → List (List T)
seen_rows hidden top left rows = map (seen_from hidden.columns left) (seen_from hidden.rows top rows)

-- a cell stands in a row or in a column that can't be seen
abbrev pub is_cell_hidden : Hidden → ℕ × ℕ → Bool
is_cell_hidden hidden position = is_hidden hidden.rows position.0 || is_hidden hidden.columns position.1

-- how many of these cells do
abbrev pub cells_hidden : {T : Type 0} → Hidden → List ((ℕ × ℕ) × T) → ℕ
cells_hidden hidden [] = 0
cells_hidden hidden (cell ∷ cells) =
    if is_cell_hidden hidden cell.0 then 1 + cells_hidden hidden cells else cells_hidden hidden cells
