-- For the proofs: what the code keeps of a number of days.
use Rattle.std.specs.Prelude.{ℕ, ◌/◌, ◌==◌, nat_le, if◌then◌else◌, Option, Some, None, ℤ, unsigned_abs}
use Rattle.xls_dates.specs.SerialDays.{last_day}
use Rattle.xls_decimals.specs.Fractions.{Fraction, day, is_below_zero, milliseconds_of}
use Rattle.xls_decimals.specs.declared.fractions.Days.{Days}

-- milliseconds up to the end of the last day
abbrev pub counted : ℕ → Option ℕ
counted ms = if nat_le (ms / day) last_day then Some ms else None

abbrev pub with_milliseconds : Fraction → Option ℕ → Option Days
with_milliseconds days None = None
with_milliseconds days (Some ms) =
    Some (record { is_negative = days.negative; is_zero = days.numerator == 0; milliseconds = ms })

abbrev pub days_in : Option Fraction → Option Days
days_in None = None
days_in (Some days) = with_milliseconds days (counted (milliseconds_of days))

-- a whole number over k
abbrev pub days_in_size : ℤ → ℕ → Fraction
days_in_size n k = record { negative = is_below_zero n; numerator = unsigned_abs n; denominator = k }
