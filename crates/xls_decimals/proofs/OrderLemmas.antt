-- The nearest whole number to a fraction, by its bounds, and the order of two.
use Rattle.std.proofs.Common.{◌≡◌, ℕ, ◌+◌, ◌*◌, ◌/◌, ◌%◌, ◌<◌, ◌≤◌, arith, ◌∙◌, sym, ap, inl, inr, Some, None, true, false, Bool, unsigned_abs, lit<}
use Rattle.std.specs.Prelude.{nat_lt, nat_le, not, ◌&&◌, if◌then◌else◌}
use Rattle.std.specs.Option.{option_map}
use Rattle.xls_lines.specs.Days.{last_day_in}
use Rattle.xls_decimals.specs.Moments.{moment_of, moment_in}
use Rattle.std.proofs.lemmas.Bool.{cases_lt, cases_eq}
use Rattle.std.proofs.lemmas.Nat.{mul-le, pow_pos}
use Rattle.std.proofs.lemmas.Option.{none-some}
use Rattle.std.proofs.Math.Nat.{lt-div-mul-add, mul-pos, div-add-mod'}
use Rattle.xls_bytes.specs.Doubles.{exponent_of, down_of}
use Rattle.xls_dates.specs.declared.numbers.Number.{Number}
use Rattle.xls_dates.specs.declared.numbers.Number.TheVariants.{Bits, Whole, Hundredths, BitsOver100}
use Rattle.xls_decimals.specs.Fractions.{Fraction, nearest, value_of, is_below_zero, milliseconds_of, day}
use Rattle.xls_decimals.proofs.FractionLemmas.{nearest_below, nearest_above, nearest_tie}

-- at most half away
Near : ℕ → ℕ → ℕ → Type 0
Near n up down = (2 * up ≤ 2 * (n * down) + down) × (2 * (n * down) ≤ 2 * up + down)

near_parts : (q r n up down : ℕ) → q * down + r ≡ up → n ≡ q → 2 * r ≤ down → Near n up down
unfolding Near
near_parts q r n up down e is h = rw is (omega (arith, e), omega (arith, e))

near_more : (q r n up down : ℕ) → q * down + r ≡ up → n ≡ q + 1 → down ≤ 2 * r → r ≤ down → Near n up down
unfolding Near
near_more q r n up down e is h l = rw is (omega (arith, e), omega (arith, e))

pub nearest_near : (up down : ℕ) → 0 < down
    → (2 * up ≤ 2 * (nearest up down * down) + down) × (2 * (nearest up down * down) ≤ 2 * up + down)
unfolding Near
nearest_near up down some =
    let parts : up / down * down + up % down ≡ up = div-add-mod' up down in
    let bound : up < up / down * down + down = lt-div-mul-add some in
    let low : up % down ≤ down = omega (arith, parts, bound) in
    elim (cases_lt (2 * (up % down)) down) [
      | inl less ↦ near_parts (up / down) (up % down) (nearest up down) up down parts (nearest_below up down less)
          (omega arith)
      | inr more ↦ elim (cases_lt down (2 * (up % down))) [
        | inl above ↦ near_more (up / down) (up % down) (nearest up down) up down parts
            (nearest_above up down above) (omega arith) low
        | inr same ↦ elim (cases_eq (up / down % 2) 0) [
          | inl even ↦ near_parts (up / down) (up % down) (nearest up down) up down parts (nearest_tie up down
              (omega arith) ∙ omega arith) (omega arith)
          | inr odd ↦ near_more (up / down) (up % down) (nearest up down) up down parts (nearest_tie up down
              (omega arith) ∙ omega arith) (omega arith) low
        ]
      ]
    ]

-- more than one apart, the nearest whole numbers are in order
pub nearest_later : (a b c d : ℕ) → 0 < b → 0 < d → (c + d) * b < a * d → nearest c d < nearest a b
nearest_later a b c d p q h = elim (cases_lt (nearest c d) (nearest a b)) [
  | inl less ↦ less
  | inr more ↦
      let x = nearest_near a b p in
      let y = nearest_near c d q in
      let left : 2 * a * d ≤ (2 * (nearest a b * b) + b) * d = mul-le (2 * a) d (2 * (nearest a b * b) + b) d x.0
      (omega arith) in
      let right : 2 * (nearest c d * d) * b ≤ (2 * c + d) * b = mul-le (2 * (nearest c d * d)) b (2 * c + d) b y.1
      (omega arith) in
      let between : nearest a b * (b * d) ≤ nearest c d * (b * d) = mul-le (nearest a b) (b * d) (nearest c d)
      (b * d) more (omega arith) in
      absurd (omega (arith, left, right, between, h))
]

-- ---- denominators

some_positive : (b : Bool) (f x : Fraction) → 0 < f.denominator → (if b then Some f else None) ≡ Some x
    → 0 < x.denominator
some_positive true f x p e =
    let same = ap (option_map (λ (v : Fraction). v.denominator)) e in
    positive f.denominator x.denominator p same
  where
    positive : (a b : ℕ) → 0 < a → Some a ≡ Some b → 0 < b
    positive a b p e = let same : a ≡ b = cc in omega (arith, same)
some_positive false f x p e = absurd (none-some x e)

pub value_positive : (n : Number) (x : Fraction) → value_of n ≡ Some x → 0 < x.denominator
value_positive (Bits bits) x e =
    some_positive (nat_lt (exponent_of bits) 2047) _ x (mul-pos (lit< tt) (pow_pos (down_of (exponent_of bits)))) e
value_positive (Whole n) x e = some_positive true
    (record { negative = is_below_zero n; numerator = unsigned_abs n; denominator = 1 }) x (lit< tt) e
value_positive (Hundredths n) x e = some_positive true
    (record { negative = is_below_zero n; numerator = unsigned_abs n; denominator = 100 }) x (lit< tt) e
value_positive (BitsOver100 bits) x e =
    some_positive (nat_lt (exponent_of bits) 2047) _ x (mul-pos (lit< tt) (pow_pos (down_of (exponent_of bits)))) e

-- the milliseconds of a date are those of its value
some_moment : (b : Bool) (ms p : ℕ) → (if b then Some ms else None) ≡ Some p → p ≡ ms
some_moment true ms p e = cc
some_moment false ms p e = absurd (none-some p e)

pub moment_is : (is_1904 : Bool) (n : Number) (x : Fraction) (p : ℕ) → value_of n ≡ Some x
    → moment_of is_1904 n ≡ Some p → p ≡ milliseconds_of x
moment_is is_1904 n x p e h =
    let here : moment_in is_1904 (Some x) ≡ Some p = ap (moment_in is_1904) (sym e) ∙ h in
    some_moment (not (x.negative && nat_lt 0 x.numerator) && nat_le (milliseconds_of x / day)
    (last_day_in is_1904)) (milliseconds_of x) p here

-- and lies on a day up to the last one
within_both : (a : Bool) (n last ms p : ℕ) → (if a && nat_le n last then Some ms else None) ≡ Some p → n ≤ last
within_both false n last ms p e = absurd (none-some p e)
within_both true n last ms p e = elim (cases_lt last n) [
  | inl past ↦
      let test : nat_le n last ≡ false = grind arith in
      absurd (none-some p (rw test at e))
  | inr within ↦ within
]

pub moment_within : (is_1904 : Bool) (n : Number) (x : Fraction) (p : ℕ) → value_of n ≡ Some x
    → moment_of is_1904 n ≡ Some p → p / day ≤ last_day_in is_1904
moment_within is_1904 n x p e h =
    let here : moment_in is_1904 (Some x) ≡ Some p = ap (moment_in is_1904) (sym e) ∙ h in
    rw (moment_is is_1904 n x p e h)
    (within_both (not (x.negative && nat_lt 0 x.numerator)) (milliseconds_of x / day) (last_day_in is_1904) (milliseconds_of x) p here)
