-- RK and MulRk, and the numbers in them.
use Rattle.std.specs.Prelude.{ℕ, ◌+◌, ◌-◌, ◌*◌, ◌/◌, ◌%◌, ◌^◌, ℤ, pos, int_div, unsigned_abs, List, Bool, ◌==◌, if◌then◌else◌, nat_lt, length, take, drop, slice_get, Option, Result, Ok, Err}
use Rattle.xls_bytes.specs.Numbers.{le, twos_complement}
use Rattle.xls_stream.specs.declared.part.Part.TheVariants as parts
use Rattle.xls_data.specs.Content.{Content}
use Rattle.xls_data.specs.Formatted.{formatted_number, formatted_whole}
use Rattle.xls_dates.specs.declared.numbers.Number.TheVariants.{Bits, Hundredths, BitsOver100}
use Rattle.xls_dates.specs.declared.formats.CellFormat.{CellFormat}
use Rattle.xls_record.specs.declared.error.XlsError.{XlsError}
use Rattle.xls_record.specs.declared.error.XlsError.TheVariants.{Len}
use Rattle.xls_record.specs.Reading.{◌>>◌, at_least, results_listed}
use Rattle.xls_biff.specs.Cells.{CellEntry, class_at, position_at}
use Rattle.xls_biff.specs.declared.records.rk.RkCell.{RkCell}

-- ---- RK numbers ([MS-XLS] RkNumber)

-- bit 0 (fX100): the number is over 100
abbrev pub is_hundredths : ℕ → Bool
is_hundredths rk = rk % 2 == 1

-- bit 1 (fInt): bits 2 to 31 are a whole number
abbrev pub is_integer : ℕ → Bool
is_integer rk = rk / 2 % 2 == 1

-- bits 2 to 31 as a signed number
abbrev pub rk_whole : ℕ → ℤ
rk_whole rk = twos_complement 30 (rk / 4)

-- bits 2 to 31 as the top 30 bits of a double
abbrev pub rk_bits : ℕ → ℕ
rk_bits rk = rk / 4 * 2 ^ 34

-- n over 100: a whole number where 100 divides n
abbrev pub hundredths_content : Option CellFormat → ℤ → Bool → Content
hundredths_content class n epoch =
    if unsigned_abs n % 100 == 0 then formatted_whole class (int_div n (pos 100)) epoch
    else formatted_number class (Hundredths n) epoch

-- the four forms
unfoldable pub rk_content : Option CellFormat → ℕ → Bool → Content
rk_content class rk epoch =
    if is_integer rk
    then (if is_hundredths rk then hundredths_content class (rk_whole rk) epoch
    else formatted_whole class (rk_whole rk) epoch)
    else (if is_hundredths rk then formatted_number class (BitsOver100 (rk_bits rk)) epoch
    else formatted_number class (Bits (rk_bits rk)) epoch)

-- RK ([MS-XLS] RK): row, column, XF index and an RK number in bytes 6 to 9
abbrev pub rk_at : List CellFormat → Bool → List ℕ → Result CellEntry XlsError
rk_at formats is_1904 body = do
  at_least 10 parts.Rk body
  Ok (position_at body, rk_content (class_at formats body) (le (take 4 (drop 6 body))) is_1904)

-- what was read of it, under the classes and the date system
abbrev pub rk_entry : List CellFormat → Bool → RkCell → CellEntry
rk_entry formats is_1904 c = (c.position, rk_content (slice_get formats c.xf) c.rk is_1904)

-- ---- MulRk ([MS-XLS] MulRk): row, first column (colFirst), for each cell an XF index and an RK number
-- in six bytes, and the last column (colLast)

abbrev pub first_column : List ℕ → ℕ
first_column body = le (take 2 (drop 2 body))

-- the last two bytes
abbrev pub last_column : List ℕ → ℕ
last_column body = le (take 2 (drop (length body - 2) body))

-- so many cells, where the length is theirs
abbrev pub sized_count : ℕ → ℕ → Result ℕ XlsError
sized_count n len = if len == 6 + 6 * n then Ok n else Err (Len (6 + 6 * n) len parts.Rk)

-- the number of cells; where the last column is before the first, 10000 bytes are expected
abbrev pub mul_rk_count : List ℕ → Result ℕ XlsError
mul_rk_count body = do
  at_least 6 parts.Rk body
  if nat_lt (last_column body) (first_column body) then Err (Len 0x10000 (length body) parts.Rk)
      else sized_count (last_column body - first_column body + 1) (length body)

-- the cell of a number, counted from 0
abbrev pub rk_cell : List CellFormat → Bool → List ℕ → ℕ → CellEntry
rk_cell formats is_1904 body i = (
  (le (take 2 body), first_column body + i),
  rk_content (slice_get formats (le (take 2 (drop (4 + 6 * i) body)))) (le (take 4 (drop (6 + 6 * i) body))) is_1904,
)

abbrev pub mul_rk_at : List CellFormat → Bool → List ℕ → Result (List CellEntry) XlsError
mul_rk_at formats is_1904 body = results_listed (rk_cell formats is_1904 body) (mul_rk_count body)
