-- Which dates are shown as dates.
use Rattle.std.specs.Prelude.{ℕ, ◌%◌, ◌==◌, nat_le, ◌&&◌, Bool, if◌then◌else◌, ℤ, pos, negsuc, int_div, unsigned_abs, Option, Some, None}
use Rattle.xls_bytes.specs.Doubles.{whole_of}
use Rattle.xls_dates.specs.Dates.{DateParts}
use Rattle.xls_dates.specs.declared.numbers.Number.{Number}
use Rattle.xls_dates.specs.declared.numbers.Number.TheVariants.{Bits, Whole, Hundredths, BitsOver100}
use Rattle.xls_dates.specs.declared.dates.ExcelDateTimeType.{ExcelDateTimeType}
use Rattle.xls_dates.specs.declared.dates.ExcelDateTimeType.TheVariants.{DateTime, TimeDelta}
use Rattle.xls_lines.specs.Days.{last_day_in}

-- the whole number that a number is, where it is one: of a double one below 2 ^ 53 in size, and none of
-- bits over 100
abbrev pub whole_number : Number → Option ℤ
whole_number (Bits bits) = whole_of bits
whole_number (Whole n) = Some n
whole_number (Hundredths n) =
    if unsigned_abs n % 100 == 0 then Some (int_div n (pos 100)) else None
whole_number (BitsOver100 bits) = None

-- a day from 1 to the last one
abbrev pub counted_day : Bool → Option ℤ → Option ℕ
counted_day is_1904 None = None
counted_day is_1904 (Some (pos n)) =
    if nat_le 1 n && nat_le n (last_day_in is_1904) then Some n else None
counted_day is_1904 (Some (negsuc n)) = None

-- the serial day of a date without a time of day; a duration has none
abbrev pub day_in : ExcelDateTimeType → Number → Bool → Option ℕ
day_in DateTime number is_1904 = counted_day is_1904 (whole_number number)
day_in TimeDelta number is_1904 = None

abbrev pub day_of : DateParts → Option ℕ
day_of d = day_in d.kind d.number d.is_1904
