-- Cells and areas in the text of a formula as Excel shows it ([MS-XLS] PtgRef, PtgArea 2.5.198.25, PtgRefN, PtgAreaN), as lists
-- of characters. The numbers of rows before BIFF8, and that corners aren't put in order, are this project's rule.
use Rattle.std.specs.Prelude.{ℕ, ◌+◌, ◌-◌, ◌%◌, List, ◌++◌, Bool, ◌&&◌, ◌==◌, if◌then◌else◌, codes}
use Rattle.std.specs.Fmt.{decimal}
use Rattle.xls_bytes.specs.Columns.{column_name}
use Rattle.xls_record.specs.Version.{is_biff8}
use Rattle.xls_record.specs.declared.version.Biff.{Biff}
use Rattle.xls_ptg.specs.declared.corner.Corner.{Corner}
use Rattle.xls_formula.specs.Tree.{dollar}
use Rattle.xls_formula_leaves.specs.declared.places.Place.{Place}

-- a sheet's rows; its columns are 256
abbrev pub row_count : Biff → ℕ
row_count biff = if is_biff8 biff then 0x10000 else 0x4000

-- ---- offsets

-- a number, or where it is relative so many more than the place's, modulo those of a sheet
abbrev pub moved : Bool → ℕ → ℕ → ℕ → ℕ
moved is_relative from n count = if is_relative then (from + n) % count else n

-- a cell whose relative row and column are offsets from a place
abbrev pub placed : Biff → Place → Corner → Corner
placed biff place c =
    record {
      row = moved c.is_row_relative place.row c.row (row_count biff);
      column = moved c.is_column_relative place.column c.column 0x100;
      is_row_relative = c.is_row_relative;
      is_column_relative = c.is_column_relative;
    }

-- ---- texts

-- by letters, and counted from 1; each with `$` before it where it isn't relative
abbrev pub column_text : Corner → List ℕ
column_text c = dollar c.is_column_relative ++ column_name c.column

abbrev pub row_text : Corner → List ℕ
row_text c = dollar c.is_row_relative ++ decimal (c.row + 1)

abbrev pub cell_text : Corner → List ℕ
cell_text c = column_text c ++ row_text c

-- two of these
abbrev pub range_text : (Corner → List ℕ) → Corner → Corner → List ℕ
range_text text first last = text first ++ (codes ":" ++ text last)

-- over all columns, and over all rows
abbrev pub has_all_columns : Corner → Corner → Bool
has_all_columns first last = (first.column == 0) && (last.column == 0xFF)

abbrev pub has_all_rows : Biff → Corner → Corner → Bool
has_all_rows biff first last = (first.row == 0) && (last.row == row_count biff - 1)

-- whole rows are written by their rows alone, whole columns by their columns
abbrev pub area_text : Biff → Corner → Corner → List ℕ
area_text biff first last =
    if has_all_columns first last then range_text row_text first last
    else if has_all_rows biff first last then range_text column_text first last
    else range_text cell_text first last
