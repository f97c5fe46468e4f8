-- Doubles as decimals of 15 significant digits, and decimals rounded at a place, as Excel does both:
-- halves away from zero.
use Rattle.std.specs.Prelude.{ℕ, ◌+◌, ◌-◌, ◌*◌, ◌^◌, ◌==◌, if◌then◌else◌, ℤ, pos, negsuc, ◌+ℤ◌, ◌-ℤ◌}
use Rattle.xls_bytes.specs.Doubles.{exponent_of, fraction_of}
use Rattle.xls_rounding.specs.Fractions.{Fraction, whole, ten_to, nearest, places, magnitude}
use Rattle.xls_rounding.specs.declared.decimals.Decimal.{Decimal}

-- the size of a double whose exponent field is e, from 1 on, and whose fraction field is f:
-- (2 ^ 52 + f) * 2 ^ (e - 1075)
abbrev pub size_of : ℕ → ℕ → Fraction
size_of e f = record { numerator = (2 ^ 52 + f) * 2 ^ (e - 1075); denominator = 2 ^ (1075 - e) }

-- the decimal of 15 significant digits nearest to x, of two that are as near the greater: with
-- 10 ^ k <= x < 10 ^ (k + 1) the natural nearest to x * 10 ^ (14 - k), times 10 ^ (k - 14)
unfoldable pub of_15_digits : Fraction → Decimal
of_15_digits x = record {
  digits = nearest (ten_to (pos 14 -ℤ magnitude x) x);
  exponent = magnitude x -ℤ pos 14;
}

-- that of a double's size; 0 for zeros and subnormal numbers
unfoldable pub decimal_of : ℕ → Decimal
decimal_of bits =
    if exponent_of bits == 0 then record { digits = 0; exponent = pos 0 }
    else of_15_digits (size_of (exponent_of bits) (fraction_of bits))

-- z where it is above 0, else 0
abbrev pub positive_part : ℤ → ℕ
positive_part (pos n) = n
positive_part (negsuc n) = 0

-- the natural nearest to 10 ^ z * n, halves up
abbrev pub rounded : ℕ → ℤ → ℕ
rounded n z = nearest (ten_to z (whole n))

-- the natural nearest to d * 10 ^ p, halves up
abbrev pub rounded_at : Decimal → ℤ → ℕ
rounded_at d p = rounded d.digits (d.exponent +ℤ p)

-- the k with 10 ^ k <= d < 10 ^ (k + 1), of a decimal that isn't 0
abbrev pub magnitude_of : Decimal → ℤ
magnitude_of d = pos (places d.digits) -ℤ pos 1 +ℤ d.exponent
