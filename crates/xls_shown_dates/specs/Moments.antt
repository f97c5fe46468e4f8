-- The date and the time that a number stands for: days since the first of a date system ([MS-XLS]
-- DateMode 2.4.77), and parts of a day.
use Rattle.std.specs.Prelude.{◌≡◌, ◌<◌, ℕ, ◌+◌, ◌*◌, ◌/◌, ◌%◌, nat_le, ◌==◌, Bool, true, false, not, ◌&&◌, ◌||◌, pos, ◌+ℤ◌}
use Rattle.xls_bytes.specs.Doubles.{exponent_of, is_negative}
use Rattle.xls_dates.specs.SerialDays.{IsDayNumber, day_number, last_day, last_day_of_1904}
use Rattle.xls_rounding.specs.Fractions.{Fraction, whole, ten_to}
use Rattle.xls_rounding.specs.Rounding.{rounded, decimal_of}
use Rattle.xls_rounding.specs.declared.decimals.Decimal.{Decimal}
use Rattle.xls_shown_dates.specs.declared.moments.Moment.{Moment}
use Rattle.xls_shown_dates.specs.declared.moments.Precision.{Precision}
use Rattle.xls_shown_dates.specs.declared.moments.Precision.TheVariants as precision

-- ---- time

-- a fraction without its part below one
abbrev pub cut : Fraction → ℕ
cut x = x.numerator / x.denominator

-- days as so many units: whole days are cut, all else is rounded, halves up
abbrev pub units_of : Precision → Decimal → ℕ
units_of precision.Days d = cut (ten_to d.exponent (whole d.digits))
units_of precision.Seconds d = rounded (d.digits * 86_400) (d.exponent +ℤ pos 0)
units_of precision.Tenths d = rounded (d.digits * 86_400) (d.exponent +ℤ pos 1)
units_of precision.Hundredths d = rounded (d.digits * 86_400) (d.exponent +ℤ pos 2)
units_of precision.Milliseconds d = rounded (d.digits * 86_400) (d.exponent +ℤ pos 3)

-- how many milliseconds a unit lasts
abbrev pub unit_length : Precision → ℕ
unit_length precision.Days = 86_400_000
unit_length precision.Seconds = 1_000
unit_length precision.Tenths = 100
unit_length precision.Hundredths = 10
unit_length precision.Milliseconds = 1

-- the milliseconds since day 0 of the double with these bits, its sign apart
abbrev pub time_of : Precision → ℕ → ℕ
time_of p bits = units_of p (decimal_of bits) * unit_length p

-- ---- days

-- The 1900 system counts from 1899-12-31, but its day 0 is the 0th of January 1900, and its day 60 a
-- 29 February 1900, which the calendar lacks.
pub record IsDateOf1900 (day : ℕ) (ymd : ℕ × ℕ × ℕ) : Type 0 where
  pub zero : day ≡ 0 → ymd ≡ (1900, 1, 0)
  pub early : 0 < day → day < 60 → IsDayNumber (day_number 1899 12 31 +ℤ pos day) ymd
  pub leap : day ≡ 60 → ymd ≡ (1900, 2, 29)
  pub late : 60 < day → IsDayNumber (day_number 1899 12 30 +ℤ pos day) ymd

-- the year, month and day of a day; the 1904 system counts from 1904-01-01
abbrev pub IsDate : Bool → ℕ → ℕ × ℕ × ℕ → Type 0
IsDate false day ymd = IsDateOf1900 day ymd
IsDate true day ymd = IsDayNumber (day_number 1904 1 1 +ℤ pos day) ymd

-- Sunday is 0 and Saturday 6. In the 1900 system day 1 is a Sunday, as if 1900 had a 29 February; in the
-- 1904 system day 0 is a Friday
abbrev pub weekday_of : Bool → ℕ → ℕ
weekday_of false day = (day + 6) % 7
weekday_of true day = (day + 5) % 7

-- the last day, 9999-12-31
abbrev pub last_of : Bool → ℕ
last_of false = last_day
last_of true = last_day_of_1904

-- ---- moments

-- a number below zero; subnormal numbers count as 0
abbrev pub is_below_zero : ℕ → Bool
is_below_zero bits = is_negative bits && not (exponent_of bits == 0)

-- a number has a moment up to the last day, and in the 1900 system only from 0 on
abbrev pub has_moment : Bool → Precision → ℕ → Bool
has_moment is_1904 p bits =
    (is_1904 || not (is_below_zero bits)) && nat_le (time_of p bits / 86_400_000) (last_of is_1904)

-- the moment so many milliseconds after the beginning of day 0
pub record IsMoment (is_1904 : Bool) (time : ℕ) (m : Moment) : Type 0 where
  pub days : m.days ≡ time / 86_400_000
  pub date : IsDate is_1904 m.days (m.year, m.month, m.day)
  pub weekday : m.weekday ≡ weekday_of is_1904 m.days
  pub hour : m.hour ≡ time / 3_600_000 % 24
  pub minute : m.minute ≡ time / 60_000 % 60
  pub second : m.second ≡ time / 1_000 % 60
  pub millisecond : m.millisecond ≡ time % 1_000
