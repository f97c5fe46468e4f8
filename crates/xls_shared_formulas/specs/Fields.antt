-- The fields of the records that hold a formula for a range of cells: ShrFmla, Array and Table. Each begins with its range
-- ([MS-XLS] RefU): the first and the last row, in two bytes each, and the first and the last column, in one. What stands before
-- BIFF8 is this project's rule.
use Rattle.std.specs.Prelude.{ℕ, List, length, slice_index, Bool, ◌&&◌, nat_le, nat_lt, ◌==◌, if◌then◌else◌, Option, Some, None}
use Rattle.xls_ptg.specs.Fields.{word_at}
use Rattle.xls_record.specs.declared.version.Biff.{Biff}
use Rattle.xls_record.specs.Version.{is_biff8}
use Rattle.xls_shared_formulas.specs.declared.types.TheConstants as types
use Rattle.xls_shared_formulas.specs.declared.fields.CellPlace.{CellPlace}
use Rattle.xls_shared_formulas.specs.declared.fields.CellRange.{CellRange}
use Rattle.xls_shared_formulas.specs.declared.fields.FormulaKind.{FormulaKind}
use Rattle.xls_shared_formulas.specs.declared.fields.FormulaKind.TheVariants.{Shared, Array, Table}

-- what the records of a type hold, if it is one of these
abbrev pub early_kind : Biff → Option FormulaKind
early_kind version = if is_biff8 version then None else Some Shared

abbrev pub kind_of : Biff → ℕ → Option FormulaKind
kind_of version typ =
    if typ == types.SHR_FMLA then Some Shared
    else if typ == types.EARLY_SHR_FMLA then early_kind version
    else if typ == types.ARRAY then Some Array
    else if typ == types.TABLE then Some Table
    else None

-- how many bytes stand before the tokens, or are all of a Table
abbrev pub least_size : FormulaKind → ℕ
least_size Shared = 0x0A
least_size Array = 0x0E
least_size Table = 0x10

-- the cell of a Formula record: rw at 0 and col at 2
abbrev pub formula_cell : List ℕ → Option CellPlace
formula_cell body = if nat_lt (length body) 4 then None else Some (record { row = word_at 0 body; column = word_at 2 body })

-- a cell, or the one before where there is none
abbrev pub or_else : Option CellPlace → Option CellPlace → Option CellPlace
or_else (Some cell) before = Some cell
or_else None before = before

-- the range that a body begins with, where it has so many bytes or more
abbrev pub range_in : ℕ → List ℕ → Option CellRange
range_in least body =
    if nat_lt (length body) least then None
    else Some (record {
      first_row = word_at 0 body;
      last_row = word_at 2 body;
      first_column = slice_index body 4;
      last_column = slice_index body 5;
    })

-- whether a cell is in a range
abbrev pub holds : CellRange → CellPlace → Bool
holds range cell =
    (nat_le range.first_row cell.row && nat_le cell.row range.last_row)
    && (nat_le range.first_column cell.column && nat_le cell.column range.last_column)
