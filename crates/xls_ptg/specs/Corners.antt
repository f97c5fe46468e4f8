-- A cell in the bytes of a token. The layout of BIFF8 follows [MS-XLS] 2.5.198; the one before it is
-- this project's rule.
use Rattle.std.specs.Prelude.{ℕ, ◌/◌, ◌%◌, false, ◌==◌}
use Rattle.xls_ptg.specs.declared.corner.Corner.{Corner}

-- a row, and a column word (ColRelU): the column in its low 14 bits, 4000 says that the column is
-- relative (colRelative) and 8000 that the row is (rowRelative)
abbrev pub corner_of : ℕ → ℕ → Corner
corner_of row column =
    record {
      row = row;
      column = column % 0x4000;
      is_column_relative = column / 0x4000 % 2 == 1;
      is_row_relative = column / 0x8000 == 1;
    }

-- before BIFF8 a row word, with the row and the flags, and a column
abbrev pub early_corner_of : ℕ → ℕ → Corner
early_corner_of row column =
    record {
      row = row % 0x4000;
      column = column;
      is_column_relative = row / 0x4000 % 2 == 1;
      is_row_relative = row / 0x8000 == 1;
    }

-- the cell, with `$` before row and column
abbrev pub pinned : Corner → Corner
pinned c =
    record {
      row = c.row;
      column = c.column;
      is_column_relative = false;
      is_row_relative = false;
    }
