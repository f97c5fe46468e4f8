-- Digits of naturals with zeros behind them.
use Rattle.std.proofs.Common.{◌≡◌, ℕ, zero, suc, ◌+◌, ◌-◌, ◌*◌, ◌/◌, ◌%◌, ◌^◌, ◌<◌, ◌≤◌, ◌==◌, true, min, arith, sym, ap, ◌∙◌, inl, inr, add-one}
use Rattle.std.specs.Prelude.{ℤ, pos, negsuc, ◌≤ℤ◌, unsigned_abs}
use Rattle.std.proofs.lemmas.Int.{ints}
use Rattle.std.proofs.lemmas.Bool.{cases_lt}
use Rattle.std.proofs.lemmas.Bool.Decides.{nat_tests}
use Rattle.std.proofs.lemmas.Nat.{pow-add, div-mul-add, mod-mul-add, div-add-mod'}
use Rattle.std.proofs.Math.Nat.{pow-suc, mod-lt, mul-div-mul_right, div-eq_of_lt, mul-lt-mul_of_pos_right, mul-le-mul_right, mod-eq_of_lt}
use Rattle.xls_rounding.specs.Fractions.{places, places_up_to}
use Rattle.xls_rounding.specs.Rounding.{rounded}
use Rattle.xls_rounding.proofs.PlaceLemmas.{ten_pos, ten_le, over_none, rounded_down, places_none, places_more, places_between}
use Rattle.xls_shown_numbers.specs.Plain.{size, digit}

split : (j k : ℕ) → j ≤ k → 10 ^ k ≡ 10 ^ (k - j) * 10 ^ j
split j k p = let e : k ≡ (k - j) + j = omega arith in ap (λ t. 10 ^ t) e ∙ pow-add 10 (k - j) j

-- ---- rounding

pub moved_down : (n : ℕ) (z : ℤ) (b r : ℕ) → n < 2 ^ 64 → z ≤ℤ negsuc 0 → b ≡ min (unsigned_abs z) 40 → r ≡ (2 * n + 10 ^ b) / (2 * 10 ^ b) → r * 10 ^ 0 ≡ rounded n z
moved_down n (pos k) b r p q e f = absurd (omega (arith, ints))
moved_down n (negsuc j) b r p q e f = elim (cases_lt j 40) [
  | inl less ↦
      let same : b ≡ j + 1 = omega (arith, ints) in
      let one : r * 10 ^ 0 ≡ r = omega arith in
      one ∙ f ∙ ap (λ t. (2 * n + 10 ^ t) / (2 * 10 ^ t)) same ∙ sym (rounded_down n j)
  | inr more ↦
      let same : b ≡ 40 = omega (arith, ints) in
      let far : 10 ^ 40 ≤ 10 ^ (j + 1) = ten_le 40 (j + 1) (omega arith) in
      let one : r * 10 ^ 0 ≡ r = omega arith in
      let none = over_none n (10 ^ (j + 1)) (omega arith) in
      let zero : (2 * n + 10 ^ 40) / (2 * 10 ^ 40) ≡ 0 = over_none n (10 ^ 40) (omega arith) in
      one ∙ f ∙ ap (λ t. (2 * n + 10 ^ t) / (2 * 10 ^ t)) same ∙ zero ∙ sym (rounded_down n j ∙ none)
]

-- ---- digits

pub digit_among_zeros : (d z p : ℕ) → p < z → 48 ≡ digit (d * 10 ^ z) p
digit_among_zeros d z p q =
    let e = split p z (omega arith) in
    let f : z - p ≡ suc (z - p - 1) = omega arith in
    let g : 10 ^ (z - p) ≡ 10 ^ (z - p - 1) * 10 = ap (λ t. 10 ^ t) f ∙ pow-suc 10 (z - p - 1) in
    let whole : d * 10 ^ z ≡ d * 10 ^ (z - p - 1) * 10 * 10 ^ p + 0 = rw (e, g) (omega arith) in
    let over : d * 10 ^ z / 10 ^ p ≡ d * 10 ^ (z - p - 1) * 10 = ap (λ t. t / 10 ^ p) whole ∙ div-mul-add (d * 10 ^ (z - p - 1) * 10) (10 ^ p) 0 (ten_pos p) in
    let none : d * 10 ^ (z - p - 1) * 10 % 10 ≡ 0 = omega arith in
    rw (over, none)

over_zeros : (d z p : ℕ) → z ≤ p → d * 10 ^ z / 10 ^ p ≡ d / 10 ^ (p - z)
over_zeros d z p q = ap (λ t. d * 10 ^ z / t) (split z p q) ∙ mul-div-mul_right d (10 ^ (p - z)) (ten_pos z)

pub digit_before_zeros : (d z p : ℕ) → z ≤ p → 48 + d / 10 ^ (p - z) % 10 ≡ digit (d * 10 ^ z) p
digit_before_zeros d z p q = sym (ap (λ t. 48 + t % 10) (over_zeros d z p q))

pub digit_far : (d z p : ℕ) → d < 2 ^ 128 → z ≤ p → 38 < p - z → 48 ≡ digit (d * 10 ^ z) p
digit_far d z p q r s =
    let far : 10 ^ 39 ≤ 10 ^ (p - z) = ten_le 39 (p - z) s in
    let none : d / 10 ^ (p - z) ≡ 0 = div-eq_of_lt (omega arith) in
    rw (over_zeros d z p r, none)

-- ---- zeros at the end

pub zeros_within : (d z k : ℕ) → k ≤ z → true ≡ (d * 10 ^ z % 10 ^ k == 0)
zeros_within d z k p =
    let whole : d * 10 ^ z ≡ d * 10 ^ (z - k) * 10 ^ k + 0 = rw (split k z p) (omega arith) in
    let none : d * 10 ^ z % 10 ^ k ≡ 0 = ap (λ t. t % 10 ^ k) whole ∙ mod-mul-add (d * 10 ^ (z - k)) (10 ^ k) 0 (ten_pos k) in
    rw none

pub times_none : (r b : ℕ) → 0 < b → (r == 0) ≡ (r * b == 0)
times_none zero b p = let none : 0 * b ≡ 0 = omega arith in rw none
times_none (suc r) b p =
    let some : 1 * b ≤ suc r * b = mul-le-mul_right b (omega arith) in
    let more : 0 < suc r * b = omega arith in
    grind (arith, nat_tests)

pub zeros_beyond : (d z k : ℕ) → z ≤ k → (d % 10 ^ (k - z) == 0) ≡ (d * 10 ^ z % 10 ^ k == 0)
zeros_beyond d z k p =
    let step = ten_pos (k - z) in
    let parts : d / 10 ^ (k - z) * 10 ^ (k - z) + d % 10 ^ (k - z) ≡ d = div-add-mod' d (10 ^ (k - z)) in
    let whole : d * 10 ^ z ≡ d / 10 ^ (k - z) * 10 ^ k + d % 10 ^ (k - z) * 10 ^ z = rw (split z k p) (omega (arith, ap (λ t. t * 10 ^ z) parts)) in
    let low : d % 10 ^ (k - z) * 10 ^ z < 10 ^ k = rw (split z k p) (mul-lt-mul_of_pos_right (mod-lt d step) (ten_pos z)) in
    let rest : d * 10 ^ z % 10 ^ k ≡ d % 10 ^ (k - z) * 10 ^ z = ap (λ t. t % 10 ^ k) whole ∙ mod-mul-add (d / 10 ^ (k - z)) (10 ^ k) (d % 10 ^ (k - z) * 10 ^ z) low in
    times_none (d % 10 ^ (k - z)) (10 ^ z) (ten_pos z) ∙ ap (λ t. t == 0) (sym rest)

pub zeros_far : (d z k : ℕ) → d < 2 ^ 128 → z ≤ k → 38 < k - z → (d == 0) ≡ (d * 10 ^ z % 10 ^ k == 0)
zeros_far d z k p q r =
    let far : 10 ^ 39 ≤ 10 ^ (k - z) = ten_le 39 (k - z) r in
    let all : d % 10 ^ (k - z) ≡ d = mod-eq_of_lt (omega arith) in
    ap (λ t. t == 0) (sym all) ∙ zeros_beyond d z k q

-- ---- the number of digits

-- n has j + 1 digits
pub record Has (f n : ℕ) : Type 0 where
  more : ℕ
  is : places_up_to f n ≡ more + 1
  low : 10 ^ more ≤ n
  high : n < 10 ^ (more + 1)

pub one_step : (f n : ℕ) → 0 < n → places_up_to (suc f) n ≡ places_up_to f (n / 10) + 1
one_step f n p = rw (← add-one) (places_more f n p)

has_digits : (f n : ℕ) → 0 < n → n < 10 ^ f → Has f n
has_digits zero n p q = absurd (omega arith)
has_digits (suc f) n p q = elim (cases_lt n 10) [
  | inl one ↦
      let none : n / 10 ≡ 0 = omega arith in
      let is : places_up_to (suc f) n ≡ 0 + 1 = one_step f n p ∙ (rw (none, places_none f)) in
      record { more = 0; is = is; low = omega arith; high = omega arith }
  | inr more ↦
      let up : 10 ^ suc f ≡ 10 ^ f * 10 = pow-suc 10 f in
      let h = has_digits f (n / 10) (omega arith) (omega arith) in
      let is : places_up_to (suc f) n ≡ (h.more + 1) + 1 = one_step f n p ∙ ap (λ t. t + 1) h.is in
      let low : 10 ^ (h.more + 1) ≡ 10 ^ h.more * 10 = rw add-one (pow-suc 10 h.more) in
      let high : 10 ^ (h.more + 1 + 1) ≡ 10 ^ (h.more + 1) * 10 = rw add-one (pow-suc 10 (h.more + 1)) in
      record { more = h.more + 1; is = is; low = omega (arith, h.low); high = omega (arith, h.high) }
]

pub above : (k : ℕ) → k < 10 ^ k
above zero = omega arith
above (suc k) = let up : 10 ^ suc k ≡ 10 ^ k * 10 = pow-suc 10 k in let less = above k in omega arith

few_digits : (n k : ℕ) → 10 ^ k ≤ n → n < 10 ^ 39 → k < 39
few_digits n k p q = elim (cases_lt k 39) [
  | inl less ↦ less
  | inr more ↦ let far = ten_le 39 k more in absurd (omega arith)
]

pub size_is : (d z : ℕ) → 0 < d → d < 2 ^ 128 → places d + z ≡ size (d * 10 ^ z)
unfolding places
size_is d z p q =
    let most : 10 ^ 39 ≤ 10 ^ 640 = ten_le 39 640 (omega arith) in
    let h = has_digits 640 d p (omega arith) in
    let low : 10 ^ (h.more + z) ≤ d * 10 ^ z = rw (pow-add 10 h.more z) (mul-le-mul_right (10 ^ z) h.low) in
    let top : 10 ^ (h.more + z + 1) ≡ 10 ^ (h.more + 1) * 10 ^ z = (let e : h.more + z + 1 ≡ h.more + 1 + z = omega arith in ap (λ t. 10 ^ t) e ∙ pow-add 10 (h.more + 1) z) in
    let high : d * 10 ^ z < 10 ^ (h.more + z + 1) = rw top (mul-lt-mul_of_pos_right h.high (ten_pos z)) in
    let fuel : h.more + z < d * 10 ^ z = omega (arith, above (h.more + z)) in
    let all = places_between (h.more + z) (d * 10 ^ z) (d * 10 ^ z) fuel low high in
    omega (arith, h.is)

pub size_none : (z : ℕ) → 0 ≡ size (0 * 10 ^ z)
size_none z = let none : 0 * 10 ^ z ≡ 0 = omega arith in rw none (sym (places_none 0))

-- 19 digits more
pub places_19 : (n : ℕ) → 10 ^ 19 ≤ n → n < 2 ^ 128 → places (n / 10 ^ 19) + 19 ≡ places n
unfolding places
places_19 n p q =
    let far : 10 ^ 39 ≤ 10 ^ 640 = ten_le 39 640 (omega arith) in
    let h = has_digits 640 (n / 10 ^ 19) (omega arith) (omega arith) in
    let short : h.more < 39 = few_digits (n / 10 ^ 19) h.more h.low (omega arith) in
    let low : 10 ^ (h.more + 19) ≡ 10 ^ h.more * 10 ^ 19 = pow-add 10 h.more 19 in
    let high : 10 ^ (h.more + 19 + 1) ≡ 10 ^ (h.more + 1) * 10 ^ 19 = (let e : h.more + 19 + 1 ≡ h.more + 1 + 19 = omega arith in ap (λ t. 10 ^ t) e ∙ pow-add 10 (h.more + 1) 19) in
    let all = places_between (h.more + 19) 640 n (omega (arith, short)) (omega (arith, low, h.low)) (omega (arith, high, h.high)) in
    omega (arith, h.is)

pub two_steps : (n : ℕ) → 10 ^ 19 ≤ n / 10 ^ 19 → n < 2 ^ 128 → places (n / 10 ^ 19 / 10 ^ 19) + 38 ≡ places n
two_steps n p q =
    let one = places_19 (n / 10 ^ 19) p (omega arith) in
    let two = places_19 n (omega arith) q in
    omega (arith, one, two)
