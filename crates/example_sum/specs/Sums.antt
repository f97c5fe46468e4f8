-- The sum of the whole numbers in a column of a range. Rows and columns count from 0 in the sheet.
use Rattle.std.specs.Prelude.{◌≡◌, ℕ, zero, suc, ◌+◌, ℤ, pos, ◌+ℤ◌, List, Option, Some}
use Rattle.std.specs.Str.{chars}
use Rattle.xls_data.specs.Data.{is_nothing}
use Rattle.xls_data.specs.declared.values.Data.{Data}
use Rattle.xls_data.specs.declared.values.Data.TheVariants as variant
use Rattle.xls_range.specs.Grid.{Grid, cell_at}
use Rattle.xls_meaning.specs.Reading.{SheetView}
use Rattle.xls_open.specs.Workbook.{Workbook, view_named}
use Rattle.xls_book.specs.LookUps.{Equal, IsRangeOf}

-- the whole number that a cell holds, and 0 for any other cell
abbrev pub int_in : Option Data → ℤ
int_in (Some (variant.Int n)) = n
int_in cell = pos 0

-- the sum of those that stand in a column, in so many of the range's first rows
abbrev pub total_above : Grid Data → ℕ → ℕ → ℤ
total_above range column zero = pos 0
total_above range column (suc n) =
    total_above range column n +ℤ int_in (cell_at range (range.top + n) column)

-- the same in all its rows
abbrev pub total : Grid Data → ℕ → ℤ
total range column = total_above range column range.height

-- the sum in a column of the last sheet of a name
abbrev pub IsSumIn : Equal → Workbook → List ℕ → ℕ → ℤ → Type 0
IsSumIn eq book name column sum =
    (view : SheetView) × (view_named book (chars name) ≡ Some view)
    × (range : Grid Data) × IsRangeOf eq is_nothing book.options.header_row view.cells range
    × (sum ≡ total range column)
