-- The text of a value in CSV, in UTF-8.
use Rattle.std.specs.Prelude.{ℕ, List, [], Option, Some, None}
use Rattle.std.specs.Fmt.{signed_decimal}
use Rattle.std.specs.Str.{encode_utf8_all}
use Rattle.xls_data.specs.Content.{Content, int, float, text, truth, date, iso_date, iso_duration, failure, nothing}
use Rattle.xls_data.specs.Data.{bool_text}
use Rattle.xls_dates.specs.Dates.{DateParts}
use Rattle.xls_data.specs.Errors.{error_text}
use Rattle.xls_dates.specs.Numbers.{number_text}
use Rattle.xls_lines.specs.Days.{date_text, serial_date}
use Rattle.xls_csv.specs.Dates.{day_of}

-- a date that has a serial day is shown as its date, and any other one as its number
abbrev pub displayed_date : DateParts → Option ℕ → List ℕ
displayed_date d (Some day) = date_text (serial_date d.is_1904 day)
displayed_date d None = number_text d.number

-- the field of a value: its printed text, but for a date that has a serial day
abbrev pub field : Content → List ℕ
field (int n) = signed_decimal n
field (float n) = number_text n
field (text cs) = encode_utf8_all cs
field (truth b) = bool_text b
field (date d) = displayed_date d (day_of d)
field (iso_date cs) = encode_utf8_all cs
field (iso_duration cs) = encode_utf8_all cs
field (failure e) = error_text e
field nothing = []
