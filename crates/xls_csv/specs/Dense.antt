-- The dense box of a sheet's cells, and its rows.
use Rattle.std.specs.Prelude.{ℕ, ◌+◌, ◌-◌, List, map, Option, Some, None, unwrap_or}
use Rattle.std.specs.List.{flat_map, range_with_len}
use Rattle.xls_data.specs.Content.{Content, nothing}
use Rattle.xls_data.specs.declared.regions.Dimensions.{Dimensions}
use Rattle.xls_range.specs.Grid.{Grid}
use Rattle.xls_range.specs.Sparse.{last_at}
use Rattle.xls_range.specs.Bounds.{bounds_of}
use Rattle.xls_range.specs.Positions.{Entry}
use Rattle.xls_biff.specs.Cells.{CellEntry}
use Rattle.xls_csv.specs.Text.{csv_text}
use Rattle.xls_csv.specs.declared.extent.Extent.{Extent}

-- the box without a position
abbrev pub no_box : Extent
no_box = record { top = 0; left = 0; height = 0; width = 0 }

-- the box from one position to another, both included
abbrev pub box_between : ℕ × ℕ → ℕ × ℕ → Extent
box_between start end =
    record {
      top = start.0;
      left = start.1;
      height = end.0 + 1 - start.0;
      width = end.1 + 1 - start.1;
    }

abbrev pub box_in : Option Dimensions → Extent
box_in None = no_box
box_in (Some bounds) = box_between bounds.start bounds.end

-- the smallest box that holds all of these cells
abbrev pub box_of : {T : Type 0} → List (Entry T) → Extent
box_of cells = box_in (bounds_of cells)

-- the same rows and columns, and those before them
abbrev pub from_a1 : Extent → Extent
from_a1 box =
    record {
      top = 0;
      left = 0;
      height = box.top + box.height;
      width = box.left + box.width;
    }

-- the value that was given to a position last, and a blank where none was
abbrev pub dense_value : {T : Type 0} → T → List (Entry T) → ℕ → ℕ → T
dense_value blank cells row column = unwrap_or (last_at cells (row, column)) blank

-- the values of a box, row by row
abbrev pub row_in : {T : Type 0} → T → List (Entry T) → Extent → ℕ → List T
row_in blank cells box row = map (dense_value blank cells row) (range_with_len box.left box.width)

abbrev pub rows_in : {T : Type 0} → T → List (Entry T) → Extent → List (List T)
rows_in blank cells box = map (row_in blank cells box) (range_with_len box.top box.height)

-- the rows of the dense box
abbrev pub dense_rows : {T : Type 0} → T → List (Entry T) → List (List T)
dense_rows blank cells = rows_in blank cells (box_of cells)

-- the dense box: the smallest one that holds all cells, with the value that was given last for each
-- position, and nothing elsewhere
abbrev pub dense : List CellEntry → Grid Content
dense cells =
    record {
      top = (box_of cells).top;
      left = (box_of cells).left;
      height = (box_of cells).height;
      width = (box_of cells).width;
      cells = flat_map (λ row. row) (dense_rows nothing cells);
    }

-- the CSV of a sheet with these cells
abbrev pub sheet_csv : List CellEntry → List ℕ
sheet_csv cells = csv_text (dense cells)
