-- The value of a cell in an item of the array.
use Rattle.std.specs.Prelude.{ℕ, List, [], encode_utf8_all, length, Bool, true, false, not, ◌==◌}
use Rattle.xls_data.specs.Content.{Content, int, float, text, truth, date, iso_date, iso_duration, failure, nothing}
use Rattle.xls_dates.specs.declared.numbers.Number.TheVariants.{Whole}
use Rattle.xls_dates.specs.declared.dates.ExcelDateTimeType.{ExcelDateTimeType}
use Rattle.xls_dates.specs.declared.dates.ExcelDateTimeType.TheVariants.{DateTime, TimeDelta}
use Rattle.xls_data.specs.declared.errors.CellErrorType.{CellErrorType}
use Rattle.xls_data.specs.declared.errors.CellErrorType.TheVariants as errors
use Rattle.xls_biff.specs.Cells.{CellEntry}
use Rattle.xls_cell_formats.specs.Doubles.{bits_of, whole_bits}
use Rattle.xls_arrays.specs.Numbers.{number_form}
use Rattle.xls_arrays.specs.declared.items.CellItem.{CellItem}

-- the code of an error value ([MS-XLS] BErr)
abbrev pub error_code : CellErrorType → ℕ
error_code errors.Null = 0x00
error_code errors.Div0 = 0x07
error_code errors.Value = 0x0F
error_code errors.Ref = 0x17
error_code errors.Name = 0x1D
error_code errors.Num = 0x24
error_code errors.NA = 0x2A
error_code errors.GettingData = 0x2B

-- 2 a date and time, 3 a duration
abbrev pub duration_or_date : ExcelDateTimeType → ℕ
duration_or_date DateTime = 2
duration_or_date TimeDelta = 3

-- 0 blank, 1 number, 4 truth value, 5 error value, 6 text, 7 a date as text, 8 a duration as text, 9 whole number
abbrev pub content_kind : Content → ℕ
content_kind nothing = 0
content_kind (int n) = 9
content_kind (float number) = 1
content_kind (date moment) = duration_or_date moment.kind
content_kind (truth b) = 4
content_kind (failure error) = 5
content_kind (text cs) = 6
content_kind (iso_date cs) = 7
content_kind (iso_duration cs) = 8

-- the form of its number
abbrev pub form_in : Content → ℕ
form_in (int n) = number_form (Whole n)
form_in (float number) = number_form number
form_in (date moment) = number_form moment.number
form_in other = 0

-- its text in UTF-8
abbrev pub content_text : Content → List ℕ
content_text (text cs) = encode_utf8_all cs
content_text (iso_date cs) = encode_utf8_all cs
content_text (iso_duration cs) = encode_utf8_all cs
content_text other = []

abbrev pub truth_bit : Bool → ℕ
truth_bit true = 1
truth_bit false = 0

-- a number that isn't 0 is true
abbrev pub is_set : ℕ → Bool
is_set n = not (n == 0)

-- what tells it: the bits of a double, a truth value, the code of an error value, the offset of a text
abbrev pub value_in : ℕ → Content → ℕ
value_in offset nothing = 0
value_in offset (int n) = whole_bits n
value_in offset (float number) = bits_of number
value_in offset (date moment) = bits_of moment.number
value_in offset (truth b) = truth_bit b
value_in offset (failure error) = error_code error
value_in offset (text cs) = offset
value_in offset (iso_date cs) = offset
value_in offset (iso_duration cs) = offset

-- a cell whose text begins at an offset
abbrev pub cell_item : ℕ → CellEntry → CellItem
cell_item offset c =
    record {
      row = c.0.0;
      column = c.0.1;
      kind = content_kind c.1;
      form = form_in c.1;
      value = value_in offset c.1;
      length = length (content_text c.1);
    }
