-- The fraction that shows a number, by doubles as Excel does it.
use Rattle.std.specs.Prelude.{ℕ, zero, suc, ◌+◌, ◌-◌, ◌*◌, ◌^◌, min, Bool, false, ◌&&◌, ◌==◌, nat_le, nat_lt, if◌then◌else◌, pos, List, [], ◌∷◌, Option, Some, None}
use Rattle.std.specs.Int.{w64}
use Rattle.std.specs.Float.{Float, binary64, fract, recip, float_round, float_to_unsigned, float_with_sign}
use Rattle.std.specs.Float.Ieee.{eq, le, mul, of_int}
use Rattle.xls_rounding.specs.Rounding.{decimal_of, rounded_at}
use Rattle.xls_number_formats.specs.Choices.{counted}
use Rattle.xls_shown_fractions.specs.declared.needs.Fraction.{Fraction}
use Rattle.xls_shown_fractions.specs.declared.ratios.TheConstants.{ZERO, TEN_TO_15}

-- a whole number and a fraction
pub record Mixed : Type 0 where
  pub whole : ℕ
  pub numerator : ℕ
  pub denominator : ℕ

-- the size of a double; subnormal numbers count as 0
abbrev pub size_of : ℕ → Float
size_of bits = float_with_sign false (counted bits)

-- the whole number that a double is, or that is below it
abbrev pub whole_of : Float → ℕ
whole_of x = float_to_unsigned w64 x

-- ---- the nearest fraction

-- at most so many quotients of the continued fraction of a double below 1: each is the whole part of the
-- reciprocal of what the one before left
unfoldable pub quotients : ℕ → Float → List ℕ
quotients zero r = []
quotients (suc n) r = if eq r ZERO then [] else whole_of (recip binary64 r) ∷ quotients n (fract binary64 (recip binary64 r))

-- the next convergent, behind two of them
abbrev pub next_of : ℕ → ℕ × ℕ → ℕ × ℕ → ℕ × ℕ
next_of a last before = (a * last.0 + before.0, a * last.1 + before.1)

abbrev pub fits : ℕ → ℕ × ℕ → Bool
fits most c = nat_le (c.0) most && nat_le (c.1) most

-- the last convergent of a continued fraction with both parts up to a bound, behind two of them
abbrev pub last_within : ℕ → ℕ × ℕ → ℕ × ℕ → List ℕ → ℕ × ℕ
last_within most before last [] = last
last_within most before last (a ∷ rest) =
    if fits most (next_of a last before) then last_within most last (next_of a last before) rest else last

-- that of a double below 1, for so many places of the denominator. Each quotient is at least 1, so 45 of them
-- lead above 10 ^ 9
abbrev pub nearest_fraction : ℕ → Float → ℕ × ℕ
nearest_fraction places x = last_within (10 ^ min places 9 - 1) (1, 0) (0, 1) (quotients 45 x)

-- ---- a fixed denominator

-- the whole number nearest to the product with it, halves up
abbrev pub fixed_numerator : ℕ → Float → ℕ
fixed_numerator d x = whole_of (float_round binary64 (mul binary64 x (of_int binary64 (pos d))))

-- ---- both

abbrev pub fraction_under : Option ℕ → ℕ → Float → ℕ × ℕ
fraction_under None places x = nearest_fraction places x
fraction_under (Some d) places x = (fixed_numerator d x, d)

-- the denominator of no fraction
abbrev pub one_under : Option ℕ → ℕ
one_under None = 1
one_under (Some d) = d

-- from 10 ^ 15 on there is no fraction, and the number is that of 15 digits
abbrev pub large_of : Fraction → ℕ → Mixed
large_of f bits =
    record { whole = rounded_at (decimal_of bits) (pos 0); numerator = 0; denominator = one_under f.fixed }

abbrev pub small_of : Fraction → Float → Mixed
small_of f x =
    let fraction = fraction_under f.fixed f.places (fract binary64 x) in
    record { whole = whole_of x; numerator = fraction.0; denominator = fraction.1 }

-- without whole places the numerator has it all; with them a fraction of 1 counts as whole
abbrev pub improper : Mixed → Mixed
improper m =
    record { whole = 0; numerator = m.whole * m.denominator + m.numerator; denominator = m.denominator }

abbrev pub proper : Mixed → Mixed
proper m =
    if nat_lt 0 m.numerator && (m.numerator == m.denominator)
    then record { whole = m.whole + 1; numerator = 0; denominator = m.denominator } else m

abbrev pub placed : Fraction → Mixed → Mixed
placed f m = if f.whole == 0 then improper m else proper m

abbrev pub ratio_of : Fraction → ℕ → Mixed
ratio_of f bits =
    placed f (if le TEN_TO_15 (size_of bits) then large_of f bits else small_of f (size_of bits))
