-- Number ([MS-XLS] Number): row, column, XF index, and the bits of a double in bytes 6 to 13.
use Rattle.std.specs.Prelude.{ℕ, List, Bool, take, drop, slice_get, Result, Ok}
use Rattle.xls_bytes.specs.Numbers.{le}
use Rattle.xls_stream.specs.declared.part.Part.TheVariants as parts
use Rattle.xls_data.specs.Formatted.{formatted_number}
use Rattle.xls_dates.specs.declared.numbers.Number.TheVariants.{Bits}
use Rattle.xls_dates.specs.declared.formats.CellFormat.{CellFormat}
use Rattle.xls_record.specs.declared.error.XlsError.{XlsError}
use Rattle.xls_record.specs.Reading.{◌>>◌, at_least}
use Rattle.xls_biff.specs.Cells.{CellEntry, class_at, position_at}
use Rattle.xls_biff.specs.declared.records.number.NumberCell.{NumberCell}

abbrev pub number_at : List CellFormat → Bool → List ℕ → Result CellEntry XlsError
number_at formats is_1904 body = do
  at_least 14 parts.Number body
  Ok (position_at body, formatted_number (class_at formats body) (Bits (le (take 8 (drop 6 body)))) is_1904)

-- what was read of it, under the classes and the date system
abbrev pub number_entry : List CellFormat → Bool → NumberCell → CellEntry
number_entry formats is_1904 c = (c.position, formatted_number (slice_get formats c.xf) (Bits c.bits) is_1904)
