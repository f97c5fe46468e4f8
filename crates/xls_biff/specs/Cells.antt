-- What the cell records of a sheet have in common.
use Rattle.std.specs.Prelude.{ℕ, List, [], not, ◌==◌, if◌then◌else◌, take, drop, slice_get, Option, Result, Ok, Err}
use Rattle.std.specs.Option.{option_map}
use Rattle.xls_bytes.specs.Numbers.{le}
use Rattle.xls_stream.specs.declared.part.Part.TheVariants as parts
use Rattle.xls_data.specs.Content.{Content, truth}
use Rattle.xls_data.specs.Data.{content_of}
use Rattle.xls_data.specs.declared.values.Data.{Data}
use Rattle.xls_data.specs.declared.numeric.Numeric.{Numeric}
use Rattle.xls_data.specs.Numeric.{numeric_content}
use Rattle.xls_dates.specs.declared.formats.CellFormat.{CellFormat}
use Rattle.xls_data.specs.declared.errors.CellErrorType.{CellErrorType}
use Rattle.xls_data.specs.declared.errors.CellErrorType.TheVariants as failures
use Rattle.xls_record.specs.declared.error.XlsError.{XlsError}
use Rattle.xls_record.specs.declared.error.XlsError.TheVariants.{Unrecognized}

-- a row and a column
abbrev pub Position : Type 0
Position = ℕ × ℕ

-- what a cell record gives: a position and the content of a value
abbrev pub CellEntry : Type 0
CellEntry = Position × Content

-- a cell by its content
abbrev pub cell_entry_of : Position × Data → CellEntry
cell_entry_of c = (c.0, content_of c.1)

-- a number at a position, likewise
abbrev pub numeric_entry : Position × Numeric → CellEntry
numeric_entry c = (c.0, numeric_content c.1)

-- a value by its content
abbrev pub value_of : Option Data → Option Content
value_of value = option_map content_of value

-- Cell ([MS-XLS] Cell): the row in bytes 0 and 1, the column in bytes 2 and 3
abbrev pub position_at : List ℕ → Position
position_at body = (le (take 2 body), le (take 2 (drop 2 body)))

-- and an XF index (ixfe) in bytes 4 and 5, whose class it is; none where the classes end before it
abbrev pub class_at : List CellFormat → List ℕ → Option CellFormat
class_at formats body = slice_get formats (le (take 2 (drop 4 body)))

-- the characters of a string, and none of one with a fault
abbrev pub characters_in : Result (List ℕ) XlsError → List ℕ
characters_in (Ok cs) = cs
characters_in (Err e) = []

-- every byte but 0 is true
abbrev pub truth_of : ℕ → Content
truth_of byte = truth (not (byte == 0))

-- BErr ([MS-XLS] BErr): the error value of a code
abbrev pub cell_error : ℕ → Result CellErrorType XlsError
cell_error code =
    if code == 0x00 then Ok failures.Null
    else if code == 0x07 then Ok failures.Div0
    else if code == 0x0F then Ok failures.Value
    else if code == 0x17 then Ok failures.Ref
    else if code == 0x1D then Ok failures.Name
    else if code == 0x24 then Ok failures.Num
    else if code == 0x2A then Ok failures.NA
    else if code == 0x2B then Ok failures.GettingData
    else Err (Unrecognized parts.CellError code)
