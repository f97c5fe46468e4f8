-- Digits behind a point, and the place of a decimal's first digit.
use Rattle.std.proofs.Common.{◌≡◌, ℕ, zero, suc, ◌+◌, ◌*◌, ◌/◌, ◌%◌, ◌^◌, ◌<◌, ◌≤◌, ◌++◌, ◌∷◌, [], List, refl, arith, lit<, ap, ◌∙◌, inl, inr}
use Rattle.std.specs.Prelude.{ℤ, pos, negsuc, ◌+ℤ◌, ◌≤ℤ◌}
use Rattle.std.specs.Fmt.{decimal}
use Rattle.std.proofs.lemmas.Int.{ints}
use Rattle.std.proofs.lemmas.Bool.{cases_lt, cases_eq}
use Rattle.std.proofs.lemmas.Fmt.{decimal_step, decimal_digit}
use Rattle.std.proofs.lemmas.Nat.{le-div, mul-le}
use Rattle.std.proofs.Math.Arith.{mod-mul}
use Rattle.std.proofs.Math.Nat.{pow-suc, mod-lt}
use Rattle.xls_rounding.specs.declared.decimals.Decimal.{Decimal}
use Rattle.xls_bytes.specs.Doubles.{exponent_of}
use Rattle.xls_rounding.specs.Fractions.{places}
use Rattle.xls_rounding.specs.Rounding.{rounded, rounded_at, magnitude_of, decimal_of}
use Rattle.xls_rounding.specs.FormulaNumbers.{before}
use Rattle.xls_rounding.proofs.PlaceLemmas.{places_is, ten_pos, ten_le, rounded_up, rounded_down}
use Rattle.xls_shown_numbers.specs.Digits.{last_digits, Is15Digits}

-- digits behind a 1
pub one_before : (p n : ℕ) → p ≤ 10 → decimal (10 ^ p + n % 10 ^ p) ≡ 49 ∷ last_digits p n
unfolding last_digits
one_before zero n q =
    let none : 10 ^ 0 + n % 10 ^ 0 ≡ 1 = omega arith in
    rw none (decimal_digit 1 (lit< tt))
one_before (suc p) n q =
    let up : 10 ^ suc p ≡ 10 ^ p * 10 = pow-suc 10 p in
    let parts : n % 10 ^ suc p ≡ n / 10 % 10 ^ p * 10 + n % 10 = rw up (mod-mul n (ten_pos p) (lit< tt)) in
    let low : n / 10 % 10 ^ p < 10 ^ p = mod-lt (n / 10) (ten_pos p) in
    let some = ten_pos p in
    let most : 10 ^ p ≤ 10 ^ 9 = ten_le p 9 (omega arith) in
    let m = 10 ^ suc p + n % 10 ^ suc p in
    let front : m / 10 ≡ 10 ^ p + n / 10 % 10 ^ p = omega arith in
    let last : m % 10 ≡ n % 10 = omega arith in
    decimal_step m (omega arith) (omega arith) ∙ (rw (front, last) (ap (λ ds. ds ++ (48 + n % 10) ∷ []) (one_before p (n / 10) (omega arith))))

pub before_one : (ds : List ℕ) → before 49 ds ≡ 49 ∷ ds
before_one [] = refl
before_one (d ∷ ds) = refl

-- 15 digits, or 16
pub places_15 : (d : Decimal) → Is15Digits d → (15 ≤ places d.digits) × (places d.digits ≤ 16)
places_15 d is = elim (cases_lt d.digits (10 ^ 15)) [
  | inl less ↦ let e = places_is 14 d.digits (omega arith) is.least less in (omega arith, omega arith)
  | inr more ↦ let e = places_is 15 d.digits (omega arith) (omega arith) (omega (arith, is.most)) in (omega arith, omega arith)
]

-- the first digit counts 10 ^ 14 or 10 ^ 15 times what the last one does
pub magnitude_15 : (d : Decimal) → Is15Digits d → ((d.exponent +ℤ pos 14) ≤ℤ magnitude_of d) × (magnitude_of d ≤ℤ (d.exponent +ℤ pos 15))
magnitude_15 d is =
    let n = places_15 d is in
    (omega (arith, ints), omega (arith, ints))

-- something is left of 15 digits
some_down : (n s : ℕ) → 10 ^ 14 ≤ n → s ≤ 11 → 0 < (2 * n + 10 ^ s) / (2 * 10 ^ s)
some_down n s p q =
    let most : 10 ^ s ≤ 10 ^ 11 = ten_le s 11 q in
    let some = ten_pos s in
    le-div 1 (2 * n + 10 ^ s) (2 * 10 ^ s) (omega arith) (omega arith)

some_by : (n : ℕ) (z : ℤ) → 10 ^ 14 ≤ n → negsuc 10 ≤ℤ z → 0 < rounded n z
some_by n (pos k) p q =
    let up = rounded_up n k in
    let most : 1 * 1 ≤ n * 10 ^ k = mul-le 1 1 n (10 ^ k) (omega arith) (ten_pos k) in
    rw up (omega arith)
some_by n (negsuc k) p q = rw (rounded_down n k) (some_down n (k + 1) p (omega (arith, ints)))

pub some_at : (d : Decimal) (p : ℤ) → Is15Digits d → negsuc 10 ≤ℤ (d.exponent +ℤ p) → 0 < rounded_at d p
some_at d p is low = some_by d.digits (d.exponent +ℤ p) is.least low

-- zeros and subnormal numbers have no digits
none_of : (bits : ℕ) → exponent_of bits ≡ 0 → (decimal_of bits).digits ≡ 0
unfolding decimal_of
none_of bits e = rw e

pub double_15 : (bits : ℕ) (d : Decimal) → d ≡ decimal_of bits → (0 < exponent_of bits → 10 ^ 14 ≤ d.digits) → d.digits ≤ 10 ^ 15
    → negsuc 321 ≤ℤ d.exponent → d.exponent ≤ℤ pos 308 → 0 < d.digits → Is15Digits d
double_15 bits d e least most low high some = elim (cases_eq (exponent_of bits) 0) [
  | inl none ↦
      let zero : d.digits ≡ 0 = ap (λ (x : Decimal). x.digits) e ∙ none_of bits none in
      absurd (omega arith)
  | inr other ↦
      let more : 0 < exponent_of bits = omega (arith, other) in
      record { least = least more; most = most; low = omega (arith, ints); high = omega (arith, ints) }
]
