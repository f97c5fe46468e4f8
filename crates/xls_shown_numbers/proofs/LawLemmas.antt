-- The digits of a whole number under the code `0`.
use Rattle.std.proofs.Common.{◌≡◌, ℕ, zero, suc, ◌+◌, ◌-◌, ◌*◌, ◌/◌, ◌%◌, ◌^◌, ◌<◌, List, [], ◌∷◌, ◌++◌, false, true, arith, lit<, sym, ap, ◌∙◌, inl, inr, add-one, codes, nat_le, if◌then◌else◌, append-nil}
use Rattle.std.specs.Prelude.{ℤ, pos, negsuc, ◌+ℤ◌, ◌-ℤ◌}
use Rattle.std.specs.Fmt.{decimal}
use Rattle.std.proofs.lemmas.Int.{ints}
use Rattle.std.proofs.lemmas.Bool.{cases_lt}
use Rattle.std.proofs.lemmas.Bool.Decides.{nat_tests}
use Rattle.std.proofs.lemmas.Nat.{div-mul-add}
use Rattle.std.proofs.lemmas.Fmt.{decimal_step, decimal_digit}
use Rattle.std.proofs.Math.Nat.{pow-suc, div-div-eq-div-mul, mul_comm}
use Rattle.xls_rounding.specs.declared.decimals.Decimal.{Decimal}
use Rattle.xls_rounding.specs.Fractions.{Fraction, whole, ten_to, nearest, IsNatural, places_up_to}
use Rattle.xls_rounding.specs.Rounding.{rounded}
use Rattle.xls_rounding.proofs.PlaceLemmas.{ten_pos, places_none}
use Rattle.xls_number_formats.specs.declared.items.Place.TheVariants as place
use Rattle.xls_number_formats.specs.Grammar.{items}
use Rattle.xls_shown_numbers.specs.Plain.{size, digit, whole_digits, whole_place, plain_text}
use Rattle.xls_shown_numbers.proofs.NumberLemmas.{above, one_step}

digit_up : (n c : ℕ) → digit n (suc c) ≡ digit (n / 10) c
digit_up n c =
    let up : 10 ^ suc c ≡ 10 * 10 ^ c = pow-suc 10 c ∙ mul_comm (10 ^ c) 10 in
    ap (λ t. 48 + n / t % 10) up ∙ sym (ap (λ t. 48 + t % 10) (div-div-eq-div-mul n 10 (10 ^ c)))

-- the last digit apart
digits_snoc : (c n : ℕ) → whole_digits false n 0 0 (suc c) ≡ whole_digits false (n / 10) 0 0 c ++ (48 + n % 10) ∷ []
digits_snoc zero n = let one : n / 10 ^ 0 ≡ n = omega arith in ap (λ t. (48 + t % 10) ∷ []) one
digits_snoc (suc c) n =
    let more : 0 + (0 + suc c) ≡ suc c = omega arith in
    let less : 0 + (0 + c) ≡ c = omega arith in
    let step : digit n (0 + (0 + suc c)) ≡ digit (n / 10) (0 + (0 + c)) = ap (digit n) more ∙ digit_up n c ∙ sym (ap (digit (n / 10)) less) in
    ap (λ t. t ∷ whole_digits false n 0 0 (suc c)) step ∙ ap (λ ds. digit (n / 10) (0 + (0 + c)) ∷ ds) (digits_snoc c n)

digits_by : (f n : ℕ) → 0 < n → n < 10 ^ f → n < 2 ^ 64 → whole_digits false n 0 0 (places_up_to f n) ≡ decimal n
digits_by zero n p q r = absurd (omega arith)
digits_by (suc f) n p q r = elim (cases_lt n 10) [
  | inl one ↦
      let none : n / 10 ≡ 0 = omega arith in
      let count : places_up_to (suc f) n ≡ 1 = one_step f n p ∙ (rw (none, places_none f)) in
      let same : n / 10 ^ 0 % 10 ≡ n = omega arith in
      ap (whole_digits false n 0 0) count ∙ ap (λ t. (48 + t) ∷ []) same ∙ sym (decimal_digit n one)
  | inr more ↦
      let up : 10 ^ suc f ≡ 10 ^ f * 10 = pow-suc 10 f in
      let count : places_up_to (suc f) n ≡ suc (places_up_to f (n / 10)) = one_step f n p ∙ add-one (places_up_to f (n / 10)) in
      let front = digits_by f (n / 10) (omega arith) (omega arith) (omega arith) in
      ap (whole_digits false n 0 0) count ∙ digits_snoc (places_up_to f (n / 10)) n ∙ ap (λ ds. ds ++ (48 + n % 10) ∷ []) front ∙ sym (decimal_step n more r)
]

pick : (s : ℕ) (xs ys : List ℕ) → 0 < s → (if nat_le s 0 then xs else ys) ≡ ys
pick s xs ys p = grind (arith, nat_tests)

-- the only place takes all digits, or shows 0
whole_zero : (n : ℕ) → n < 2 ^ 64 → whole_place false n 0 true place.Zero 0 ≡ decimal n
whole_zero zero r =
    let none : size 0 ≡ 0 = places_none 0 in
    rw none (sym (decimal_digit 0 (lit< tt)))
whole_zero (suc m) r =
    let n = suc m in
    let some : 0 < size n = omega (arith, one_step m n (omega arith)) in
    let all : size n - 0 ≡ size n = omega arith in
    pick (size n) (48 ∷ []) (whole_digits false n 0 0 (size n - 0)) some ∙ ap (whole_digits false n 0 0) all ∙ digits_by n n (omega arith) (above n) r

-- nothing of a natural is rounded away
nothing_lost : (x : Fraction) (n : ℕ) → 0 < x.denominator → IsNatural n x → nearest x ≡ n
nothing_lost x n p e =
    let sum : 2 * x.numerator + x.denominator ≡ n * (2 * x.denominator) + x.denominator = omega (arith, ap (λ t. 2 * t) e) in
    ap (λ t. t / (2 * x.denominator)) sum ∙ div-mul-add n (2 * x.denominator) x.denominator (omega arith)

denominator_pos : (q : ℕ) (z : ℤ) → 0 < (ten_to z (whole q)).denominator
denominator_pos q (pos k) = omega arith
denominator_pos q (negsuc k) = let some = ten_pos (k + 1) in omega arith

pub zero_shows : (d : Decimal) (n : ℕ) → n < 10 ^ 15 → IsNatural n (ten_to d.exponent (whole d.digits)) → plain_text (items (codes "0")) d ≡ decimal n
zero_shows d n p e =
    let z : d.exponent +ℤ pos 0 -ℤ pos 0 ≡ d.exponent = omega (arith, ints) in
    let is : rounded d.digits (d.exponent +ℤ pos 0 -ℤ pos 0) ≡ n = ap (rounded d.digits) z ∙ nothing_lost _ n (denominator_pos d.digits d.exponent) e in
    append-nil _ ∙ ap (λ t. whole_place false t 0 true place.Zero 0) is ∙ whole_zero n (omega arith)
