-- Formula ([MS-XLS] Formula): row, column, XF index, a FormulaValue in bytes 6 to 13, and from byte 20
-- on the tokens.
use Rattle.std.specs.Prelude.{[], ℕ, List, Bool, ◌==◌, if◌then◌else◌, take, drop, slice_get, slice_index, Option, Some, None, Result, Ok, Err}
use Rattle.xls_bytes.specs.Numbers.{le}
use Rattle.xls_stream.specs.declared.part.Part.TheVariants as parts
use Rattle.xls_data.specs.Content.{Content, text, truth, failure}
use Rattle.xls_data.specs.Formatted.{formatted_number}
use Rattle.xls_dates.specs.declared.numbers.Number.TheVariants.{Bits}
use Rattle.xls_dates.specs.declared.formats.CellFormat.{CellFormat}
use Rattle.xls_record.specs.declared.error.XlsError.{XlsError}
use Rattle.xls_record.specs.declared.error.XlsError.TheVariants.{Unrecognized}
use Rattle.xls_record.specs.Reading.{◌>>=◌, ◌>>◌, at_least, gives}
use Rattle.xls_biff.specs.Cells.{Position, cell_error, class_at, position_at, truth_of}
use Rattle.xls_biff.specs.declared.records.formula.FormulaParts.{FormulaParts}
use Rattle.xls_biff.specs.declared.records.formula.FormulaValue.{FormulaValue}
use Rattle.xls_biff.specs.declared.records.formula.FormulaValue.TheVariants as value

-- a value under a class and a date system: None where a String record follows
abbrev pub value_content : Option CellFormat → Bool → FormulaValue → Option Content
value_content class is_1904 (value.Number bits) = Some (formatted_number class (Bits bits) is_1904)
value_content class is_1904 (value.Bool b) = Some (truth b)
value_content class is_1904 (value.Error e) = Some (failure e)
value_content class is_1904 value.EmptyText = Some (text [])
value_content class is_1904 value.Text = None

-- a value that is no number, by the bytes 0 and 2: None where a String record follows
abbrev pub special_value : ℕ → ℕ → Result (Option Content) XlsError
special_value kind byte =
    if kind == 0 then Ok None
    else if kind == 1 then Ok (Some (truth_of byte))
    else if kind == 2 then gives (λ error. Some (failure error)) (cell_error byte)
    else if kind == 3 then Ok (Some (text []))
    else Err (Unrecognized parts.CellError kind)

-- FormulaValue ([MS-XLS] 2.5.133): FFFF in the bytes 6 and 7 (fExprO) says that it is no double
abbrev pub formula_value_at : Option CellFormat → Bool → List ℕ → Result (Option Content) XlsError
formula_value_at class is_1904 bytes =
    if le (take 2 (drop 6 bytes)) == 0xFFFF then special_value (slice_index bytes 0) (slice_index bytes 2)
    else Ok (Some (formatted_number class (Bits (le (take 8 bytes))) is_1904))

-- the position, the value under the class of the XF index, and the tokens
abbrev pub formula_at : List CellFormat → Bool → List ℕ → Result (Position × Option Content × List ℕ) XlsError
formula_at formats is_1904 body = do
  at_least 20 parts.Formula body
  value ← formula_value_at (class_at formats body) is_1904 (take 8 (drop 6 body))
  Ok (position_at body, value, drop 20 body)

-- what was read of it, under the classes and the date system
abbrev pub formula_parts : List CellFormat → Bool → FormulaParts → Position × Option Content × List ℕ
formula_parts formats is_1904 f = (f.position, value_content (slice_get formats f.xf) is_1904 f.value, f.rgce.now)
