-- The size of a double at a scale.
use Rattle.std.proofs.Common.{min, ◌⊎◌, ◌≡◌, ℕ, suc, ◌+◌, ◌-◌, ◌*◌, ◌/◌, ◌^◌, ◌<◌, ◌≤◌, arith, sym, ◌∙◌, ap, inl, inr, lit≤, lit<, add-one}
use Rattle.std.specs.Prelude.{ℤ, pos, negsuc, ◌-ℤ◌}
use Rattle.std.proofs.lemmas.Int.{ints}
use Rattle.std.proofs.lemmas.Bool.{cases_eq}
use Rattle.std.proofs.lemmas.Nat.{pow-add, pow_pos, mul-le, mul-pow, le-div, div_below}
use Rattle.std.proofs.Math.Nat.{mul-le-mul_right, mul-le-mul_left, mul-lt-mul_of_pos_right, le_of_mul-le-mul_right, lt_of_mul-lt-mul_right, mul-div-mul_right, div-div-eq-div-mul, div-eq_of_lt, div-le_self, div-mul-le_self, lt-div-mul-add, pow-le-pow_left, pow-suc, mul-pos, mul_comm, add-div_right, le_trans, lt_of_lt_of_le, lt_of_le_of_lt}
use Rattle.std.proofs.Math.Pow.{pow_mono}
use Rattle.xls_rounding.specs.Fractions.{Fraction, ten_to, nearest, places, magnitude}
use Rattle.xls_rounding.specs.Rounding.{of_15_digits}
use Rattle.xls_rounding.specs.Limbs.{twice_at}
use Rattle.xls_rounding.specs.declared.decimals.Decimal.{Decimal}
use Rattle.xls_rounding.proofs.PlaceLemmas.{ten_pos, ten_le, places_is}

-- ---- one scale and another

ten_split : (j k : ℕ) → j ≤ k → 10 ^ (k - j) * 10 ^ j ≡ 10 ^ k
ten_split j k p = let e : (k - j) + j ≡ k = omega arith in sym (pow-add 10 (k - j) j) ∙ ap (λ t. 10 ^ t) e

pub scale_up : (n d s off : ℕ) → off ≤ s → n * 10 ^ s / (d * 10 ^ off) ≡ n * 10 ^ (s - off) / d
scale_up n d s off p =
    let e : n * 10 ^ s ≡ n * 10 ^ (s - off) * 10 ^ off = omega (arith, ap (λ t. n * t) (ten_split off s p)) in
    rw e (mul-div-mul_right (n * 10 ^ (s - off)) d (ten_pos off))

pub scale_down : (n d s off : ℕ) → s ≤ off → n * 10 ^ s / (d * 10 ^ off) ≡ n / (d * 10 ^ (off - s))
scale_down n d s off p =
    let e : d * 10 ^ off ≡ d * 10 ^ (off - s) * 10 ^ s = omega (arith, ap (λ t. d * t) (ten_split s off p)) in
    rw e (mul-div-mul_right n (d * 10 ^ (off - s)) (ten_pos s))

scale_step : (n b s : ℕ) → n * 10 ^ (s + 1) / b / 10 ≡ n * 10 ^ s / b
scale_step n b s =
    let e : n * 10 ^ (s + 1) ≡ n * 10 ^ s * 10 = rw add-one (omega (arith, ap (λ t. n * t) (pow-suc 10 s))) in
    div-div-eq-div-mul (n * 10 ^ (s + 1)) b 10 ∙ rw e (mul-div-mul_right (n * 10 ^ s) b (lit< tt))

pub twice_step : (m e s : ℕ) → twice_at m e (s + 1) / 10 ≡ twice_at m e s
unfolding twice_at
twice_step m e s = scale_step (2 * (m * 2 ^ (e - 1075))) (2 ^ (1075 - e) * 10 ^ 308) s

pub twice_quotient : (m e s : ℕ) → s < 308 → twice_at m e s ≡ 2 * (m * 2 ^ (e - 1075)) / (2 ^ (1075 - e) * 10 ^ (308 - s))
unfolding twice_at
twice_quotient m e s p = scale_down (2 * (m * 2 ^ (e - 1075))) (2 ^ (1075 - e)) s 308 (omega arith)

pub twice_product : (m e s : ℕ) → 308 ≤ s → twice_at m e s ≡ 2 * (m * 2 ^ (e - 1075)) * 10 ^ (s - 308) / 2 ^ (1075 - e)
unfolding twice_at
twice_product m e s p = scale_up (2 * (m * 2 ^ (e - 1075))) (2 ^ (1075 - e)) s 308 p

-- ---- times a power of ten

-- 2 ^ a * 5 ^ p over 2 ^ b in fewer bits
pub product_is : (m e p : ℕ) → e + p < 1074
    → 2 * (m * 2 ^ (e - 1075)) * 10 ^ p / 2 ^ (1075 - e) ≡ m * 5 ^ p / 2 ^ (1074 - e - p)
product_is m e p q =
    let none : e - 1075 ≡ 0 = omega arith in
    let ten : 10 ^ p ≡ 2 ^ p * 5 ^ p = mul-pow 2 5 p in
    let parts : 1075 - e ≡ (1074 - e - p) + (p + 1) = omega arith in
    let down : 2 ^ (1075 - e) ≡ 2 ^ (1074 - e - p) * 2 ^ (p + 1) = ap (λ t. 2 ^ t) parts ∙ pow-add 2 (1074 - e - p) (p + 1) in
    let one : 2 ^ (p + 1) ≡ 2 ^ p * 2 = pow-add 2 p 1 in
    let up : 2 * (m * 2 ^ 0) * (2 ^ p * 5 ^ p) ≡ (m * 5 ^ p) * (2 ^ p * 2) = omega arith in
    rw (none, ten, down, one, up) (mul-div-mul_right (m * 5 ^ p) (2 ^ (1074 - e - p)) (omega (arith, pow_pos p)))

pub product_many : (m e p : ℕ) → 2 ^ 52 ≤ m → 1074 ≤ e + p → 2 ^ 52 ≤ 2 * (m * 2 ^ (e - 1075)) * 10 ^ p / 2 ^ (1075 - e)
product_many m e p q r =
    let step : 2 ^ (1075 - e) ≤ 2 ^ (p + 1) = pow_mono {i = 1075 - e} {j = p + 1} (omega arith) in
    let one : 2 ^ (p + 1) ≡ 2 ^ p * 2 = pow-add 2 p 1 in
    let tens : 2 ^ p ≤ 10 ^ p = pow-le-pow_left {n = 2} {m = 10} (lit≤ tt) p in
    let least : 2 ^ 52 * 1 ≤ m * 2 ^ (e - 1075) = mul-le (2 ^ 52) 1 m (2 ^ (e - 1075)) q (pow_pos (e - 1075)) in
    let all : 2 ^ 52 * 1 * (2 * 10 ^ p) ≤ m * 2 ^ (e - 1075) * (2 * 10 ^ p) = mul-le-mul_right (2 * 10 ^ p) least in
    le-div (2 ^ 52) (2 * (m * 2 ^ (e - 1075)) * 10 ^ p) (2 ^ (1075 - e)) (pow_pos (1075 - e)) (omega arith)

-- ---- over a power of ten

pub quotient_low : (m e j : ℕ) → e < 1074 → 2 * (m * 2 ^ (e - 1075)) / (2 ^ (1075 - e) * 10 ^ j) ≡ m / 2 ^ (1074 - e) / 10 ^ j
quotient_low m e j p =
    let none : e - 1075 ≡ 0 = omega arith in
    let parts : 1075 - e ≡ (1074 - e) + 1 = omega arith in
    let down : 2 ^ (1075 - e) ≡ 2 ^ (1074 - e) * 2 = ap (λ t. 2 ^ t) parts ∙ pow-add 2 (1074 - e) 1 in
    let up : 2 * (m * 2 ^ 0) ≡ m * 2 = omega arith in
    let all : 2 ^ (1074 - e) * 2 * 10 ^ j ≡ (2 ^ (1074 - e) * 10 ^ j) * 2 = omega arith in
    rw (none, down, up, all) (mul-div-mul_right m (2 ^ (1074 - e) * 10 ^ j) (lit< tt) ∙ sym (div-div-eq-div-mul m (2 ^ (1074 - e)) (10 ^ j)))

pub quotient_high : (m e j : ℕ) → 1074 ≤ e → 2 * (m * 2 ^ (e - 1075)) / (2 ^ (1075 - e) * 10 ^ j) ≡ m * 2 ^ (e - 1074) / 10 ^ j
quotient_high m e j p = elim (cases_eq e 1074) [
  | inl same ↦
      let up : e - 1075 ≡ 0 = omega arith in
      let down : 1075 - e ≡ 1 = omega arith in
      let whole : e - 1074 ≡ 0 = omega arith in
      let two : 2 * (m * 2 ^ 0) ≡ m * 2 ^ 0 * 2 = omega arith in
      let over : 2 ^ 1 * 10 ^ j ≡ 10 ^ j * 2 = omega arith in
      rw (up, down, whole, two, over) (mul-div-mul_right (m * 2 ^ 0) (10 ^ j) (lit< tt))
  | inr other ↦
      let down : 1075 - e ≡ 0 = omega arith in
      let parts : e - 1074 ≡ (e - 1075) + 1 = omega arith in
      let up : 2 ^ (e - 1074) ≡ 2 ^ (e - 1075) * 2 = ap (λ t. 2 ^ t) parts ∙ pow-add 2 (e - 1075) 1 in
      let two : 2 * (m * 2 ^ (e - 1075)) ≡ m * (2 ^ (e - 1075) * 2) = omega arith in
      let over : 2 ^ 0 * 10 ^ j ≡ 10 ^ j = omega arith in
      rw (down, up, two, over)
]

pub quotient_none : (m e j : ℕ) → m < 2 ^ 53 → e < 1074 → (52 < 1074 - e) ⊎ ((1074 - e ≤ 52) × (19 < j))
    → 2 * (m * 2 ^ (e - 1075)) / (2 ^ (1075 - e) * 10 ^ j) ≡ 0
quotient_none m e j p q (inl far) =
    let big : 2 ^ 53 ≤ 2 ^ (1074 - e) = pow_mono {i = 53} {j = 1074 - e} (omega arith) in
    let none : m / 2 ^ (1074 - e) ≡ 0 = div-eq_of_lt (omega arith) in
    quotient_low m e j q ∙ rw none (div-eq_of_lt (ten_pos j))
quotient_none m e j p q (inr far) =
    let big : 10 ^ 20 ≤ 10 ^ j = ten_le 20 j (omega arith) in
    let less : m / 2 ^ (1074 - e) ≤ m = div-le_self m (2 ^ (1074 - e)) in
    quotient_low m e j q ∙ div-eq_of_lt (omega arith)

pub quotient_short : (m e j : ℕ) → m < 2 ^ 53 → 0 < j → m / 2 ^ (1074 - e) / 10 ^ j < 2 ^ 52
quotient_short m e j p q =
    let less : m / 2 ^ (1074 - e) ≤ m = div-le_self m (2 ^ (1074 - e)) in
    let ten : 10 ^ 1 ≤ 10 ^ j = ten_le 1 j q in
    div_below (m / 2 ^ (1074 - e)) (10 ^ j) (2 ^ 52) (ten_pos j) (omega (arith, mul-le-mul_left (2 ^ 52) ten))

-- ---- the bounds of a scale

-- the least normal number at the greatest scale
twice_most : (m e : ℕ) → 2 ^ 52 ≤ m → 0 < e → 200_000_000_000_000 ≤ twice_at m e 630
unfolding twice_at
twice_most m e p q =
    let step : 2 ^ (1075 - e) ≤ 2 ^ 1074 = pow_mono {i = 1075 - e} {j = 1074} (omega arith) in
    let over : 200_000_000_000_000 * (2 ^ (1075 - e) * 10 ^ 308) ≤ 200_000_000_000_000 * (2 ^ 1074 * 10 ^ 308) =
    mul-le-mul_left 200_000_000_000_000 (mul-le-mul_right (10 ^ 308) step) in
    let known : 200_000_000_000_000 * (2 ^ 1074 * 10 ^ 308) ≤ 2 * (2 ^ 52 * 1) * 10 ^ 630 = lit≤ tt in
    let least : 2 ^ 52 * 1 ≤ m * 2 ^ (e - 1075) = mul-le (2 ^ 52) 1 m (2 ^ (e - 1075)) p (pow_pos (e - 1075)) in
    let under : 2 * (2 ^ 52 * 1) * 10 ^ 630 ≤ 2 * (m * 2 ^ (e - 1075)) * 10 ^ 630 =
    mul-le-mul_right (10 ^ 630) (mul-le-mul_left 2 least) in
    le-div 200_000_000_000_000 (2 * (m * 2 ^ (e - 1075)) * 10 ^ 630) (2 ^ (1075 - e) * 10 ^ 308)
    (mul-pos (pow_pos (1075 - e)) (ten_pos 308)) (le_trans over (le_trans known under))

-- the greatest number at the least scale
twice_least : (m e : ℕ) → m < 2 ^ 53 → e < 2048 → twice_at m e 0 < 2_000_000_000_000_000
unfolding twice_at
twice_least m e p q =
    let step : 2 ^ (e - 1075) ≤ 2 ^ 972 = pow_mono {i = e - 1075} {j = 972} (omega arith) in
    let most : m * 2 ^ (e - 1075) ≤ 2 ^ 53 * 2 ^ 972 = mul-le m (2 ^ (e - 1075)) (2 ^ 53) (2 ^ 972) (omega arith) step in
    let under : 2 * (m * 2 ^ (e - 1075)) * 10 ^ 0 ≤ 2 * (2 ^ 53 * 2 ^ 972) * 10 ^ 0 = mul-le-mul_right (10 ^ 0) (mul-le-mul_left 2 most) in
    let known : 2 * (2 ^ 53 * 2 ^ 972) * 10 ^ 0 < 2_000_000_000_000_000 * (1 * 10 ^ 308) = lit< tt in
    let over : 2_000_000_000_000_000 * (1 * 10 ^ 308) ≤ 2_000_000_000_000_000 * (2 ^ (1075 - e) * 10 ^ 308) =
    mul-le-mul_left 2_000_000_000_000_000 (mul-le-mul_right (10 ^ 308) (pow_pos (1075 - e))) in
    div_below (2 * (m * 2 ^ (e - 1075)) * 10 ^ 0) (2 ^ (1075 - e) * 10 ^ 308) 2_000_000_000_000_000
    (mul-pos (pow_pos (1075 - e)) (ten_pos 308)) (lt_of_lt_of_le (lt_of_le_of_lt under known) over)

-- below 15 digits there is a greater scale
pub scale_above : (m e s : ℕ) → 2 ^ 52 ≤ m → 0 < e → s ≤ 630 → min (twice_at m e s) (2 ^ 52) < 200_000_000_000_000 → s + 1 ≤ 630
scale_above m e s p q r low = elim (cases_eq s 630) [
  | inl same ↦ let t = rw same at low in absurd (omega (arith, twice_most m e p q))
  | inr other ↦ omega arith
]

-- from 16 digits on there is a smaller one, and it leaves 15 digits
pub scale_below : (m e s : ℕ) → m < 2 ^ 53 → e < 2048 → 2_000_000_000_000_000 ≤ min (twice_at m e s) (2 ^ 52) → 1 ≤ s
scale_below m e s p q high = elim (cases_eq s 0) [
  | inl same ↦ let t = rw same at high in absurd (omega (arith, twice_least m e p q))
  | inr other ↦ omega arith
]

pub scale_keeps : (m e s : ℕ) → 1 ≤ s → 2_000_000_000_000_000 ≤ min (twice_at m e s) (2 ^ 52)
    → 200_000_000_000_000 ≤ min (twice_at m e (s - 1)) (2 ^ 52)
scale_keeps m e s p high =
    let up : s ≡ (s - 1) + 1 = omega arith in
    let t = rw up at high in
    let step = twice_step m e (s - 1) in
    omega arith

-- ---- the decimal at a scale that leaves 15 digits

magnitude_low : (a b s q t c : ℕ) → 0 < s → q * s ≡ c * t * t → c * (b * t) ≤ a * s → q * b ≤ a * t
magnitude_low a b s q t c p e h =
    let more : c * (b * t) * t ≤ a * s * t = mul-le-mul_right t h in
    let same : q * s * b ≡ c * t * t * b = ap (λ x. x * b) e in
    le_of_mul-le-mul_right {m = q * b} {n = a * t} {k = s} (omega arith) p

magnitude_high : (a b s r t c : ℕ) → 0 < t → r * s ≡ c * t * t → a * s < c * (b * t) → a * t < r * b
magnitude_high a b s r t c p e h =
    let more : a * s * t < c * (b * t) * t = mul-lt-mul_of_pos_right h p in
    let same : r * s * b ≡ c * t * t * b = ap (λ x. x * b) e in
    lt_of_mul-lt-mul_right s {m = a * t} {n = r * b} (omega arith)

-- twice a fraction at a scale, rounded down, has 15 digits and so has the half
magnitude_bounds : (a b s t q r f : ℕ) → 0 < b → 0 < t → 0 < s → f ≡ 2 * a * s / (b * t) → 200_000_000_000_000 ≤ f → f < 2_000_000_000_000_000
    → q * s ≡ 100_000_000_000_000 * t * t → r * s ≡ 1_000_000_000_000_000 * t * t
    → (q ≤ a * t / b) × (a * t / b < r)
magnitude_bounds a b s t q r f pb pt ps is low high eq er =
    let over : 0 < b * t = mul-pos pb pt in
    let below : f * (b * t) ≤ 2 * a * s = rw is (div-mul-le_self (2 * a * s) (b * t)) in
    let above : 2 * a * s < f * (b * t) + b * t = rw is (lt-div-mul-add over) in
    let least : 200_000_000_000_000 * (b * t) ≤ f * (b * t) = mul-le-mul_right (b * t) low in
    let most : suc f * (b * t) ≤ 2_000_000_000_000_000 * (b * t) = mul-le-mul_right (b * t) high in
    let lower : 100_000_000_000_000 * (b * t) ≤ a * s = omega arith in
    let upper : a * s < 1_000_000_000_000_000 * (b * t) = omega arith in (
      le-div q (a * t) b pb (magnitude_low a b s q t 100_000_000_000_000 ps eq lower),
      div_below (a * t) b r pb (magnitude_high a b s r t 1_000_000_000_000_000 pt er upper),
    )

magnitude_at : (a b s f : ℕ) → 0 < b → s ≤ 630 → f ≡ 2 * a * 10 ^ s / (b * 10 ^ 308) → 200_000_000_000_000 ≤ f → f < 2_000_000_000_000_000
    → places (a * 10 ^ 308 / b) ≡ (630 - s) + 1
magnitude_at a b s f p q is low high =
    let e : (630 - s) + 1 ≡ 631 - s = omega arith in
    let both = magnitude_bounds a b (10 ^ s) (10 ^ 308) (10 ^ (630 - s)) (10 ^ (631 - s)) f p (ten_pos 308) (ten_pos s) is low high
    (ten_split s 630 q) (ten_split s 631 (omega arith)) in
    places_is (630 - s) (a * 10 ^ 308 / b) (omega arith) both.0 (rw e both.1)

magnitude_from : (n s : ℕ) → s ≤ 630 → n ≡ (630 - s) + 1 → pos n -ℤ pos 309 ≡ pos 322 -ℤ pos s
magnitude_from n s p e = omega (arith, ints)

-- half of it, rounded
nearest_half : (x : Fraction) → 0 < x.denominator → nearest x ≡ (2 * x.numerator / x.denominator + 1) / 2
nearest_half x p =
    let e : 2 * x.denominator ≡ x.denominator * 2 = mul_comm 2 x.denominator in
    rw e (sym (div-div-eq-div-mul (2 * x.numerator + x.denominator) x.denominator 2) ∙ ap (λ t. t / 2) (add-div_right (2 * x.numerator) p))

pub digits_by : (a b s : ℕ) (z : ℤ) → 0 < b → z ≡ pos s -ℤ pos 308
    → nearest (ten_to z (record { numerator = a; denominator = b })) ≡ (2 * a * 10 ^ s / (b * 10 ^ 308) + 1) / 2
digits_by a b s (pos n) p e =
    let off : 308 ≤ s = omega (arith, ints) in
    let is : n ≡ s - 308 = omega (arith, ints) in
    let same : 2 * (a * 10 ^ (s - 308)) ≡ 2 * a * 10 ^ (s - 308) = omega arith in
    rw is (nearest_half (record { numerator = a * 10 ^ (s - 308); denominator = b }) p
    ∙ rw same (ap (λ t. (t + 1) / 2) (sym (scale_up (2 * a) b s 308 off))))
digits_by a b s (negsuc n) p e =
    let off : s ≤ 308 = omega (arith, ints) in
    let is : n + 1 ≡ 308 - s = omega (arith, ints) in
    rw is (nearest_half (record { numerator = a; denominator = b * 10 ^ (308 - s) }) (mul-pos p (ten_pos (308 - s)))
    ∙ ap (λ t. (t + 1) / 2) (sym (scale_down (2 * a) b s 308 off)))

magnitude_is : (a b s f : ℕ) → 0 < b → s ≤ 630 → f ≡ 2 * a * 10 ^ s / (b * 10 ^ 308) → 200_000_000_000_000 ≤ f → f < 2_000_000_000_000_000
    → magnitude (record { numerator = a; denominator = b }) ≡ pos 322 -ℤ pos s
unfolding magnitude
magnitude_is a b s f p q is low high = magnitude_from (places (a * 10 ^ 308 / b)) s q (magnitude_at a b s f p q is low high)

decimal_with : (x : Fraction) (k e : ℤ) (d : ℕ) → magnitude x ≡ k → nearest (ten_to (pos 14 -ℤ k) x) ≡ d → k -ℤ pos 14 ≡ e
    → ◌≡◌ {A = Decimal} (of_15_digits x) (record { digits = d; exponent = e })
unfolding of_15_digits
decimal_with x k e d m n w = rw (m, n, w)

decimal_at : (a b s f : ℕ) → 0 < b → s ≤ 630 → f ≡ 2 * a * 10 ^ s / (b * 10 ^ 308) → 200_000_000_000_000 ≤ f → f < 2_000_000_000_000_000
    → ◌≡◌ {A = Decimal} (of_15_digits (record { numerator = a; denominator = b })) (record { digits = (f + 1) / 2; exponent = pos 308 -ℤ pos s })
decimal_at a b s f p q is low high =
    let up : pos 14 -ℤ (pos 322 -ℤ pos s) ≡ pos s -ℤ pos 308 = omega (arith, ints) in
    let down : (pos 322 -ℤ pos s) -ℤ pos 14 ≡ pos 308 -ℤ pos s = omega (arith, ints) in
    let digits = digits_by a b s (pos 14 -ℤ (pos 322 -ℤ pos s)) p up ∙ ap (λ t. (t + 1) / 2) (sym is) in
    decimal_with (record { numerator = a; denominator = b }) (pos 322 -ℤ pos s) (pos 308 -ℤ pos s) ((f + 1) / 2)
    (magnitude_is a b s f p q is low high) digits down

-- the decimal that the code gives
pub size_at : (m e s twice : ℕ) → s ≤ 630 → twice ≡ min (twice_at m e s) (2 ^ 52) → 200_000_000_000_000 ≤ twice → twice < 2_000_000_000_000_000
    → ◌≡◌ {A = Decimal} (of_15_digits (record { numerator = m * 2 ^ (e - 1075); denominator = 2 ^ (1075 - e) })) (record { digits = (twice + 1) / 2; exponent = pos 308 -ℤ pos s })
unfolding twice_at
size_at m e s twice p is low high =
    decimal_at (m * 2 ^ (e - 1075)) (2 ^ (1075 - e)) s twice (pow_pos (1075 - e)) p (omega arith) low high
