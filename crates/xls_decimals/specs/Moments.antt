-- Which numbers are shown as dates and durations, and how.
use Rattle.std.specs.Prelude.{◌≡◌, ℕ, ◌/◌, ◌&&◌, nat_le, nat_lt, not, if◌then◌else◌, Bool, Option, Some, None, MatchOption, List}
use Rattle.xls_dates.specs.Dates.{DateParts}
use Rattle.xls_dates.specs.SerialDays.{last_day}
use Rattle.xls_dates.specs.declared.numbers.Number.{Number}
use Rattle.xls_dates.specs.declared.dates.ExcelDateTimeType.{ExcelDateTimeType}
use Rattle.xls_dates.specs.declared.dates.ExcelDateTimeType.TheVariants.{DateTime, TimeDelta}
use Rattle.xls_lines.specs.Days.{last_day_in}
use Rattle.xls_decimals.specs.Decimals.{IsDecimal}
use Rattle.xls_decimals.specs.Fractions.{Fraction, value_of, milliseconds_of, day}
use Rattle.xls_decimals.specs.Texts.{moment_text, duration_text}

-- the milliseconds from the start of day 0 of a value that isn't below zero, up to the end of the
-- last day
abbrev pub moment_in : Bool → Option Fraction → Option ℕ
moment_in is_1904 None = None
moment_in is_1904 (Some days) =
    if not (days.negative && nat_lt 0 days.numerator) && nat_le (milliseconds_of days / day) (last_day_in is_1904)
    then Some (milliseconds_of days) else None

abbrev pub moment_of : Bool → Number → Option ℕ
moment_of is_1904 number = moment_in is_1904 (value_of number)

-- the text of a number that is a date: out of range it stays a number
abbrev pub IsDate : Bool → Number → List ℕ → Type 0
IsDate is_1904 number text =
    MatchOption (moment_of is_1904 number) (IsDecimal number text) (λ ms. text ≡ moment_text is_1904 ms)

-- whether a duration is below zero, and its size in milliseconds, of less days than 9999-12-31 has
-- in the 1900 system
abbrev pub span_in : Option Fraction → Option (Bool × ℕ)
span_in None = None
span_in (Some days) =
    if nat_le (milliseconds_of days / day) last_day
    then Some (days.negative, milliseconds_of days) else None

abbrev pub span_of : Number → Option (Bool × ℕ)
span_of number = span_in (value_of number)

-- the text of a number that is a duration: out of range it stays a number
abbrev pub IsDuration : Number → List ℕ → Type 0
IsDuration number text =
    MatchOption (span_of number) (IsDecimal number text) (λ span. text ≡ duration_text span.0 span.1)

-- the text of a date or a duration, by its kind
abbrev pub is_date_or_duration : ExcelDateTimeType → Number → Bool → List ℕ → Type 0
is_date_or_duration DateTime number is_1904 text = IsDate is_1904 number text
is_date_or_duration TimeDelta number is_1904 text = IsDuration number text

abbrev pub IsDateOrDuration : DateParts → List ℕ → Type 0
IsDateOrDuration d text = is_date_or_duration d.kind d.number d.is_1904 text
