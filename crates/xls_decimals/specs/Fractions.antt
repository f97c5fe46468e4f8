-- The exact value of a number of days, as a fraction of whole numbers, and its milliseconds.
use Rattle.std.specs.Prelude.{ℕ, ◌+◌, ◌*◌, ◌/◌, ◌%◌, ◌^◌, nat_lt, if◌then◌else◌, Bool, true, false, Option, Some, None, ℤ, pos, negsuc, unsigned_abs}
use Rattle.xls_bytes.specs.Doubles.{exponent_of, fraction_of, is_negative, mantissa_of, up_of, down_of}
use Rattle.xls_dates.specs.declared.numbers.Number.{Number}
use Rattle.xls_dates.specs.declared.numbers.Number.TheVariants.{Bits, Whole, Hundredths, BitsOver100}

-- a value: whether it has a minus, and its size, a numerator over a denominator that isn't 0
pub record Fraction : Type 0 where
  pub negative : Bool
  pub numerator : ℕ
  pub denominator : ℕ

abbrev pub is_below_zero : ℤ → Bool
is_below_zero (pos n) = false
is_below_zero (negsuc n) = true

-- a finite double over k: its mantissa times 2 ^ up, over k times 2 ^ down
abbrev pub double_over : ℕ → ℕ → Option Fraction
double_over bits k =
    if nat_lt (exponent_of bits) 2047
    then Some (record {
      negative = is_negative bits;
      numerator = mantissa_of (exponent_of bits) (fraction_of bits) * 2 ^ up_of (exponent_of bits);
      denominator = k * 2 ^ down_of (exponent_of bits);
    }) else None

-- the exact value of a number, where it has one
abbrev pub value_of : Number → Option Fraction
value_of (Bits bits) = double_over bits 1
value_of (Whole n) = Some (record { negative = is_below_zero n; numerator = unsigned_abs n; denominator = 1 })
value_of (Hundredths n) = Some (record { negative = is_below_zero n; numerator = unsigned_abs n; denominator = 100 })
value_of (BitsOver100 bits) = double_over bits 100

-- a fraction as the nearest whole number; of two that are as near, the even one
unfoldable pub nearest : ℕ → ℕ → ℕ
nearest up down =
    if nat_lt (2 * (up % down)) down then up / down
    else if nat_lt down (2 * (up % down)) then up / down + 1
    else up / down + up / down % 2

-- the milliseconds of a day
abbrev pub day : ℕ
day = 86_400_000

-- the nearest millisecond of so many days
abbrev pub milliseconds_of : Fraction → ℕ
milliseconds_of days = nearest (days.numerator * day) days.denominator
