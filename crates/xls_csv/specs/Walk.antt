-- What is seen of cells that are gone through once, row by row. Where they ascend, these are the rows of
-- the dense box.
use Rattle.std.specs.Prelude.{◌≡◌, ℕ, List, [], ◌∷◌, Option, Some, None, if◌then◌else◌, zero, suc, ◌+◌, ◌==◌, ◌&&◌}
use Rattle.xls_data.specs.Content.{Content, nothing}
use Rattle.xls_range.specs.Positions.{Entry}
use Rattle.xls_view.specs.Formats.{FormattedCell}
use Rattle.xls_view.specs.Values.{formatted_entry}
use Rattle.xls_view.specs.declared.value.SheetCell.{SheetCell}
use Rattle.xls_csv.specs.Dense.{box_of}
use Rattle.xls_csv.specs.declared.extent.Extent.{Extent}

-- a value, and the cells that are left after it
abbrev pub Taken : Type 0 → Type 0
Taken T = T × List (Entry T)

-- the value of the first cell, where it stands at this position, and else a blank
abbrev pub take_at : {T : Type 0} → T → ℕ → ℕ → List (Entry T) → Taken T
take_at blank row column [] = (blank, [])
take_at blank row column (c ∷ cs) =
    if (c.0.0 == row) && (c.0.1 == column) then (c.1, cs) else (blank, c ∷ cs)

-- the values of a row from a column on, for so many columns, and the cells that are left after them
abbrev pub row_over : {T : Type 0} → T → ℕ → ℕ → ℕ → List (Entry T) → List T
row_over blank row column zero cells = []
row_over blank row column (suc n) cells =
    (take_at blank row column cells).0 ∷ row_over blank row (column + 1) n (take_at blank row column cells).1

abbrev pub left_over : {T : Type 0} → T → ℕ → ℕ → ℕ → List (Entry T) → List (Entry T)
left_over blank row column zero cells = cells
left_over blank row column (suc n) cells =
    left_over blank row (column + 1) n (take_at blank row column cells).1

-- so many rows from a row on
abbrev pub rows_over : {T : Type 0} → T → ℕ → ℕ → ℕ → ℕ → List (Entry T) → List (List T)
rows_over blank zero row left width cells = []
rows_over blank (suc n) row left width cells =
    row_over blank row left width cells
    ∷ rows_over blank n (row + 1) left width (left_over blank row left width cells)

-- the rows of a box
abbrev pub walk_box : {T : Type 0} → T → Extent → List (Entry T) → List (List T)
walk_box blank box cells = rows_over blank box.height box.top box.left box.width cells

-- all rows of these cells
abbrev pub walk_rows : {T : Type 0} → T → List (Entry T) → List (List T)
walk_rows blank cells = walk_box blank (box_of cells) cells

-- ---- cells with their formats

-- what a cell shows: its content, and its XF index
abbrev pub Formatted : Type 0
Formatted = Content × ℕ

-- where no cell stands
abbrev pub no_cell : Formatted
no_cell = (nothing, 0)

-- the content alone
abbrev pub content_in : Formatted → Content
content_in f = f.0

-- the next cell, if there is one, and those after it
abbrev pub cells_ahead : Option SheetCell → List FormattedCell → List FormattedCell
cells_ahead None others = others
cells_ahead (Some cell) others = formatted_entry cell ∷ others

-- what a cell shows that may be missing
abbrev pub value_in : Option SheetCell → Formatted
value_in None = no_cell
value_in (Some cell) = (formatted_entry cell).1

-- the cell at a position was taken, if it stood next
abbrev pub TakesCell : List FormattedCell → ℕ → ℕ → Option SheetCell → List FormattedCell → Type 0
TakesCell before row column cell after = take_at no_cell row column before ≡ (value_in cell, after)
