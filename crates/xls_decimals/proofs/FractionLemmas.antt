-- The nearest whole number to a fraction, region by region of a double's exponent field.
use Rattle.std.proofs.Common.{◌≡◌, ℕ, ◌+◌, ◌-◌, ◌*◌, ◌/◌, ◌%◌, ◌^◌, ◌<◌, ◌≤◌, refl, arith, ◌∙◌, Bool, true, false, inl, inr}
use Rattle.std.specs.Prelude.{nat_le, Option, Some, None, if◌then◌else◌}
use Rattle.std.specs.Option.{option_map}
use Rattle.std.proofs.lemmas.Bool.{lt-ltb, le-ltb}
use Rattle.std.proofs.lemmas.Bool.{cases_lt, cases_eq, lt-leb}
use Rattle.std.proofs.lemmas.Nat.{mul-le, le-div}
use Rattle.std.proofs.Math.Nat.{div-eq_of_lt, mod-eq_of_lt, mul-one}
use Rattle.std.proofs.Math.Pow.{pow_mono}
use Rattle.xls_bytes.proofs.SizeLemmas.{mantissa_above}
use Rattle.xls_bytes.specs.Doubles.{mantissa_of, up_of, down_of}
use Rattle.xls_dates.specs.SerialDays.{last_day}
use Rattle.xls_decimals.specs.Fractions.{Fraction, nearest, day, milliseconds_of}
use Rattle.xls_decimals.specs.Counted.{counted, days_in, with_milliseconds}
use Rattle.xls_decimals.specs.Moments.{span_in}
use Rattle.xls_decimals.specs.declared.fractions.Days.{Days}

pub nearest_below : (up down : ℕ) → 2 * (up % down) < down → nearest up down ≡ up / down
unfolding nearest
nearest_below up down p = rw (lt-ltb (2 * (up % down)) down p)

pub nearest_above : (up down : ℕ) → down < 2 * (up % down) → nearest up down ≡ up / down + 1
unfolding nearest
nearest_above up down p = rw (le-ltb (2 * (up % down)) down (omega arith), lt-ltb down (2 * (up % down)) p)

pub nearest_tie : (up down : ℕ) → 2 * (up % down) ≡ down → nearest up down ≡ up / down + up / down % 2
unfolding nearest
nearest_tie up down p = rw (le-ltb (2 * (up % down)) down (omega arith), le-ltb down (2 * (up % down)) (omega arith))

nearest_least : (up down : ℕ) → up / down ≤ nearest up down
nearest_least up down = elim (cases_lt (2 * (up % down)) down) [
  | inl low ↦ rw (nearest_below up down low) (omega arith)
  | inr high ↦ elim (cases_lt down (2 * (up % down))) [
    | inl above ↦ rw (nearest_above up down above) (omega arith)
    | inr same ↦ rw (nearest_tie up down (omega arith)) (omega arith)
  ]
]

nearest_none : (up down : ℕ) → 2 * up < down → nearest up down ≡ 0
nearest_none up down p =
    let rest : up % down ≡ up = mod-eq_of_lt (omega arith) in
    let none : up / down ≡ 0 = div-eq_of_lt (omega arith) in
    nearest_below up down (rw rest p) ∙ none

counted_none : (n : ℕ) → 2 ^ 45 * day ≤ n → counted n ≡ None
counted_none n p = rw (lt-leb (n / day) last_day (omega arith))

-- the fraction of parts that are known
fraction_parts : (e f k m up down : ℕ) → mantissa_of e f ≡ m → up_of e ≡ up → down_of e ≡ down
    → nearest (mantissa_of e f * 2 ^ up_of e * day) (k * 2 ^ down_of e) ≡ nearest (m * 2 ^ up * day) (k * 2 ^ down)
fraction_parts e f k m up down a b c = rw (a, b, c)

-- a double with a positive exponent has more days than the last
pub fraction_far : (e f k : ℕ) → 1075 < e → 0 < k → k < 2 ^ 8
    → counted (nearest (mantissa_of e f * 2 ^ up_of e * day) (k * 2 ^ down_of e)) ≡ None
fraction_far e f k p q r =
    let two : 2 ^ 1 ≤ 2 ^ (e - 1075) = pow_mono {i = 1} {j = e - 1075} (omega arith) in
    let big : 2 ^ 52 * 2 ≤ (2 ^ 52 + f) * 2 ^ (e - 1075) = mul-le (2 ^ 52) 2 (2 ^ 52 + f) (2 ^ (e - 1075))
    (omega arith) two in
    let whole : k * 2 ^ 0 ≡ k = mul-one k in
    let size : 2 ^ 45 * day ≤ (2 ^ 52 + f) * 2 ^ (e - 1075) * day / k =
    le-div (2 ^ 45 * day) ((2 ^ 52 + f) * 2 ^ (e - 1075) * day) k q (omega arith) in
    let least = nearest_least ((2 ^ 52 + f) * 2 ^ (e - 1075) * day) k in
    rw (fraction_parts e f k (2 ^ 52 + f) (e - 1075) 0 (mantissa_above e f (omega arith)) refl (omega arith), whole)
    (counted_none (nearest ((2 ^ 52 + f) * 2 ^ (e - 1075) * day) k) (omega (arith, size, least)))

-- a mantissa over 2 ^ 82 or more is less than half a millisecond
near_zero : (m k down : ℕ) → m < 2 ^ 53 → 82 ≤ down → 0 < k → nearest (m * 2 ^ 0 * day) (k * 2 ^ down) ≡ 0
near_zero m k down p q r =
    let whole : m * 2 ^ 0 ≡ m = mul-one m in
    let big : 2 ^ 82 ≤ 2 ^ down = pow_mono {i = 82} {j = down} q in
    let more : 1 * 2 ^ 82 ≤ k * 2 ^ down = mul-le 1 (2 ^ 82) k (2 ^ down) (omega arith) big in
    rw whole (nearest_none (m * day) (k * 2 ^ down) (omega arith))

pub fraction_near : (e f k : ℕ) → e < 994 → f < 2 ^ 52 → 0 < k
    → counted (nearest (mantissa_of e f * 2 ^ up_of e * day) (k * 2 ^ down_of e)) ≡ Some 0
fraction_near e f k p q r = elim (cases_eq e 0) [
  | inl zero_field ↦
      let first : nearest (mantissa_of e f * 2 ^ up_of e * day) (k * 2 ^ down_of e) ≡ 0 =
      fraction_parts e f k f 0 1074 (rw zero_field refl) (omega arith) (omega arith) ∙ near_zero f k 1074
      (omega arith) (omega arith) r in
      rw first
  | inr above ↦
      let first : nearest (mantissa_of e f * 2 ^ up_of e * day) (k * 2 ^ down_of e) ≡ 0 =
      fraction_parts e f k (2 ^ 52 + f) 0 (1075 - e) (mantissa_above e f (omega arith)) (omega arith) (omega arith)
      ∙ near_zero (2 ^ 52 + f) k (1075 - e) (omega arith) (omega arith) r in
      rw first
]

pub fraction_between : (e f k : ℕ) → 994 ≤ e → e ≤ 1075
    → nearest (mantissa_of e f * 2 ^ up_of e * day) (k * 2 ^ down_of e) ≡ nearest ((2 ^ 52 + f) * day) (k * 2 ^ (1075 - e))
fraction_between e f k p q =
    let whole : (2 ^ 52 + f) * 2 ^ 0 ≡ 2 ^ 52 + f = mul-one (2 ^ 52 + f) in
    fraction_parts e f k (2 ^ 52 + f) 0 (1075 - e) (mantissa_above e f (omega arith)) (omega arith) (omega arith) ∙ rw whole

-- ---- what the code keeps of a number of days

abbrev pub span_parts : Days → Bool × ℕ
span_parts d = (d.is_negative, d.milliseconds)

span_by : (days : Fraction) (b : Bool)
    → ◌≡◌ {A = Option (Bool × ℕ)} (if b then Some (days.negative, milliseconds_of days) else None)
    (option_map span_parts (with_milliseconds days (if b then Some (milliseconds_of days) else None)))
span_by days true = refl
span_by days false = refl

pub span_from_days : (v : Option Fraction) → span_in v ≡ option_map span_parts (days_in v)
span_from_days None = refl
span_from_days (Some days) = span_by days (nat_le (milliseconds_of days / day) last_day)
