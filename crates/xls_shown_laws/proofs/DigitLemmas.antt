-- The digits of a natural before and behind a point.
use Rattle.std.proofs.Common.{◌≡◌, ℕ, zero, suc, ◌+◌, ◌-◌, ◌*◌, ◌/◌, ◌%◌, ◌^◌, ◌<◌, ◌≤◌, [], ◌∷◌, ◌++◌, true, false, nat_le, if◌then◌else◌, refl, arith, sym, ap, ◌∙◌, inl, inr}
use Rattle.std.specs.Fmt.{decimal}
use Rattle.std.proofs.lemmas.Bool.{cases_lt}
use Rattle.std.proofs.lemmas.Bool.Decides.{nat_tests}
use Rattle.std.proofs.lemmas.Nat.{pow-add, le-div}
use Rattle.std.proofs.lemmas.Fmt.{decimal_step_wide, decimal_digit}
use Rattle.std.proofs.Math.Nat.{pow-suc, div-div-eq-div-mul, div-eq_of_lt, mul_comm}
use Rattle.xls_number_formats.specs.declared.items.Place.TheVariants as place
use Rattle.xls_rounding.specs.Fractions.{places_up_to}
use Rattle.xls_rounding.proofs.PlaceLemmas.{ten_pos, places_none}
use Rattle.xls_shown_numbers.specs.Digits.{last_digits}
use Rattle.xls_shown_numbers.specs.Plain.{size, digit, whole_digits, whole_place}

up : (n : ℕ) → 10 ^ suc n ≡ 10 * 10 ^ n
up n = pow-suc 10 n ∙ mul_comm (10 ^ n) 10

over_ten : (n c : ℕ) → n / 10 ^ suc c ≡ n / 10 / 10 ^ c
over_ten n c = ap (λ t. n / t) (up c) ∙ sym (div-div-eq-div-mul n 10 (10 ^ c))

digit_up : (n c : ℕ) → digit n (suc c) ≡ digit (n / 10) c
digit_up n c = ap (λ t. 48 + t % 10) (over_ten n c)

-- ---- the last digits

-- the first of them apart
pub first_of_last : (p n : ℕ) → last_digits (suc p) n ≡ digit n p ∷ last_digits p n
unfolding last_digits
first_of_last zero n = let one : n / 10 ^ 0 ≡ n = omega arith in ap (λ t. (48 + t % 10) ∷ []) (sym one)
first_of_last (suc p) n =
    ap (λ ds. ds ++ (48 + n % 10) ∷ []) (first_of_last p (n / 10))
    ∙ ap (λ d. d ∷ (last_digits p (n / 10) ++ (48 + n % 10) ∷ [])) (sym (digit_up n p))

-- ---- the number of digits

enough : (f g n : ℕ) → n ≤ f → n ≤ g → places_up_to f n ≡ places_up_to g n
unfolding places_up_to
enough zero g zero p q = sym (places_none g)
enough zero g (suc n) p q = absurd (omega arith)
enough (suc f) zero zero p q = refl
enough (suc f) zero (suc n) p q = absurd (omega arith)
enough (suc f) (suc g) zero p q = refl
enough (suc f) (suc g) (suc n) p q = ap (λ t. suc t) (enough f g (suc n / 10) (omega arith) (omega arith))

size_step : (n : ℕ) → 0 < n → size n ≡ suc (size (n / 10))
unfolding places_up_to
size_step zero p = absurd (omega arith)
size_step (suc n) p = ap (λ t. suc t) (enough n (suc n / 10) (suc n / 10) (omega arith) (omega arith))

-- without the last p digits
size_over : (p n : ℕ) → 10 ^ p ≤ n → size n ≡ size (n / 10 ^ p) + p
size_over zero n h = let one : n / 10 ^ 0 ≡ n = omega arith in ap size (sym one) ∙ omega arith
size_over (suc p) n h =
    let some = ten_pos p in
    let e = up p in
    let rest = size_over p (n / 10) (omega arith) in
    let same = ap size (over_ten n p) in
    omega (arith, size_step n (omega arith), rest, same)

size_within : (p n : ℕ) → n < 10 ^ p → size n ≤ p
size_within zero n h = let none : n ≡ 0 = omega arith in rw (none, places_none 0) (omega arith)
size_within (suc p) n h = elim (cases_lt 0 n) [
  | inl some ↦ let e = up p in omega (arith, size_step n some, size_within p (n / 10) (omega arith))
  | inr none ↦ let zero : n ≡ 0 = omega arith in rw (zero, places_none 0) (omega arith)
]

-- ---- the digits before the point

digits_over : (n p c : ℕ) → whole_digits false n p 0 c ≡ whole_digits false (n / 10 ^ p) 0 0 c
digits_over n p zero = refl
digits_over n p (suc c) =
    let more : p + (0 + c) ≡ p + c = omega arith in
    let less : 0 + (0 + c) ≡ c = omega arith in
    let step : digit n (p + (0 + c)) ≡ digit (n / 10 ^ p) (0 + (0 + c)) =
    ap (digit n) more ∙ ap (λ t. 48 + n / t % 10) (pow-add 10 p c) ∙ ap (λ t. 48 + t % 10) (sym (div-div-eq-div-mul n (10 ^ p) (10 ^ c)))
    ∙ sym (ap (digit (n / 10 ^ p)) less) in
    ap (λ d. d ∷ whole_digits false n p 0 c) step ∙ ap (λ ds. digit (n / 10 ^ p) (0 + (0 + c)) ∷ ds) (digits_over n p c)

-- the last digit apart
digits_snoc : (c n : ℕ) → whole_digits false n 0 0 (suc c) ≡ whole_digits false (n / 10) 0 0 c ++ (48 + n % 10) ∷ []
digits_snoc zero n = let one : n / 10 ^ 0 ≡ n = omega arith in ap (λ t. (48 + t % 10) ∷ []) one
digits_snoc (suc c) n =
    let more : 0 + (0 + suc c) ≡ suc c = omega arith in
    let less : 0 + (0 + c) ≡ c = omega arith in
    let step : digit n (0 + (0 + suc c)) ≡ digit (n / 10) (0 + (0 + c)) = ap (digit n) more ∙ digit_up n c ∙ sym (ap (digit (n / 10)) less) in
    ap (λ t. t ∷ whole_digits false n 0 0 (suc c)) step ∙ ap (λ ds. digit (n / 10) (0 + (0 + c)) ∷ ds) (digits_snoc c n)

digits_by : (f n : ℕ) → 0 < n → n ≤ f → n < 10 ^ 64 → whole_digits false n 0 0 (size n) ≡ decimal n
digits_by zero n p q r = absurd (omega arith)
digits_by (suc f) n p q r = elim (cases_lt n 10) [
  | inl one ↦
      let none : n / 10 ≡ 0 = omega arith in
      let count : size n ≡ 1 = size_step n p ∙ ap (λ t. suc (size t)) none ∙ ap (λ t. suc t) (places_none 0) in
      let same : n / 10 ^ 0 % 10 ≡ n = omega arith in
      ap (whole_digits false n 0 0) count ∙ ap (λ t. (48 + t) ∷ []) same ∙ sym (decimal_digit n one)
  | inr more ↦
      let front = digits_by f (n / 10) (omega arith) (omega arith) (omega arith) in
      ap (whole_digits false n 0 0) (size_step n p) ∙ digits_snoc (size (n / 10)) n ∙ ap (λ ds. ds ++ (48 + n % 10) ∷ []) front ∙ sym (decimal_step_wide n more r)
]

-- the only whole place takes all digits before the point, or shows 0
pub whole_zero : (n p : ℕ) → n / 10 ^ p < 10 ^ 64 → whole_place false n p true place.Zero 0 ≡ decimal (n / 10 ^ p)
whole_zero n p r = elim (cases_lt n (10 ^ p)) [
  | inl less ↦
      let fits : nat_le (size n) (p + 0) ≡ true = (let few = size_within p n less in grind (arith, nat_tests)) in
      let none : n / 10 ^ p ≡ 0 = div-eq_of_lt less in
      ap (λ b. if b then 48 ∷ [] else whole_digits false n p 0 (size n - (p + 0))) fits ∙ sym (decimal_digit 0 (omega arith)) ∙ sym (ap decimal none)
  | inr more ↦
      let m = n / 10 ^ p in
      let some : 0 < m = le-div 1 n (10 ^ p) (ten_pos p) (omega arith) in
      let all = size_over p n more in
      let has : 0 < size m = omega (arith, size_step m some) in
      let exceeds : nat_le (size n) (p + 0) ≡ false = grind (arith, nat_tests) in
      let count : size n - (p + 0) ≡ size m = omega arith in
      ap (λ b. if b then 48 ∷ [] else whole_digits false n p 0 (size n - (p + 0))) exceeds
      ∙ ap (whole_digits false n p 0) count ∙ digits_over n p (size m) ∙ digits_by m m some (omega arith) r
]
