-- Fractions of naturals, times powers of ten, and the naturals nearest to them.
use Rattle.std.specs.Prelude.{◌≡◌, ◌<◌, ◌≤◌, ℕ, zero, suc, ◌+◌, ◌*◌, ◌/◌, ◌^◌, ℤ, pos, negsuc, ◌-ℤ◌}

-- a numerator over a denominator that isn't 0
pub record Fraction : Type 0 where
  pub numerator : ℕ
  pub denominator : ℕ

abbrev pub whole : ℕ → Fraction
whole n = record { numerator = n; denominator = 1 }

-- 10 ^ z times a fraction
abbrev pub ten_to : ℤ → Fraction → Fraction
ten_to (pos n) x = record { numerator = x.numerator * 10 ^ n; denominator = x.denominator }
ten_to (negsuc n) x = record { numerator = x.numerator; denominator = x.denominator * 10 ^ (n + 1) }

-- a fraction is a natural; it is from one natural on and below another
abbrev pub IsNatural : ℕ → Fraction → Type 0
IsNatural n x = x.numerator ≡ n * x.denominator

abbrev pub IsBetween : ℕ → ℕ → Fraction → Type 0
IsBetween low high x = (low * x.denominator ≤ x.numerator) × (x.numerator < high * x.denominator)

-- the natural nearest to a fraction, of two that are as near the greater
abbrev pub nearest : Fraction → ℕ
nearest x = (2 * x.numerator + x.denominator) / (2 * x.denominator)

-- n - 1/2 <= x < n + 1/2
abbrev pub IsNearest : ℕ → Fraction → Type 0
IsNearest n x =
    (2 * n * x.denominator ≤ 2 * x.numerator + x.denominator) × (2 * x.numerator < (2 * n + 1) * x.denominator)

-- the number of decimal digits of a natural that has at most so many; none of 0
unfoldable pub places_up_to : ℕ → ℕ → ℕ
places_up_to zero n = 0
places_up_to (suc most) zero = 0
places_up_to (suc most) (suc n) = suc (places_up_to most (suc n / 10))

-- that of a natural below 10 ^ 640
unfoldable pub places : ℕ → ℕ
places n = places_up_to 640 n

-- the k with 10 ^ k <= x < 10 ^ (k + 1), of a fraction x from 10 ^ -308 and below 10 ^ 330:
-- 10 ^ 308 * x, rounded down, has k + 309 digits
unfoldable pub magnitude : Fraction → ℤ
magnitude x = pos (places (x.numerator * 10 ^ 308 / x.denominator)) -ℤ pos 309
