-- The number in the name of a file.
use Rattle.std.proofs.Common.{◌≡◌, ℕ, ◌+◌, ◌%◌, ◌<◌, ◌≤◌, ◌^◌, inl, inr, Bool, true, false, List, [], ◌∷◌, ◌++◌, get_or, map, drop, encode_utf8_all, arith, refl, sym, ap, ◌∙◌}
use Rattle.std.specs.Prelude.{if◌then◌else◌, nat_lt}
use Rattle.std.specs.Fmt.{decimal}
use Rattle.std.specs.List.{AllByRecursion}
use Rattle.std.proofs.lemmas.Bool.{cases_lt}
use Rattle.std.proofs.lemmas.Fmt.{decimal_by_steps, decimal_injective, first_decimal}
use Rattle.xls_tables.specs.FileNames.{FileNamesDiffer, fitting, kept_char, at_least_two_digits}

-- ---- what stands before the first dash

-- no byte is a dash or one before it in ASCII
AreDigits : List ℕ → Type 0
AreDigits text = AllByRecursion (λ (b : ℕ). 48 ≤ b) text

digits_then : (xs ys : List ℕ) → AreDigits xs → AreDigits ys → AreDigits (xs ++ ys)
unfolding AreDigits
digits_then [] ys p q = q
digits_then (x ∷ xs) ys p q = (p.0, digits_then xs ys p.1 q)

decimal_digits : (n : ℕ) → n < 2 ^ 64 → AreDigits (decimal n)
unfolding AreDigits
decimal_digits n small = decimal_by_steps (λ n ds. AreDigits ds) (λ n l. (omega arith, tt))
    (λ n ds l p. digits_then ds ((48 + n % 10) ∷ []) p (omega arith, tt)) n small

number_digits : (n : ℕ) → n < 2 ^ 64 → AreDigits (at_least_two_digits n)
unfolding AreDigits
number_digits n small = by_test (nat_lt n 10)
  where
    by_test : (t : Bool) → AreDigits (if t then 0x30 ∷ decimal n else decimal n)
    by_test true = (omega arith, decimal_digits n small)
    by_test false = decimal_digits n small

same_head : (x y : ℕ) (xs ys : List ℕ) → x ∷ xs ≡ y ∷ ys → x ≡ y
same_head x y xs ys e = ap (λ (l : List ℕ). get_or l 0 0) e

same_tail : (x y : ℕ) (xs ys : List ℕ) → x ∷ xs ≡ y ∷ ys → xs ≡ ys
same_tail x y xs ys e = ap (λ (l : List ℕ). drop 1 l) e

before_dash : (xs ys us vs : List ℕ) → AreDigits xs → AreDigits ys → xs ++ 0x2D ∷ us ≡ ys ++ 0x2D ∷ vs → xs ≡ ys
unfolding AreDigits
before_dash [] [] us vs p q e = refl
before_dash [] (y ∷ ys) us vs p q e = absurd (omega (arith, same_head 0x2D y us (ys ++ 0x2D ∷ vs) e, q.0))
before_dash (x ∷ xs) [] us vs p q e = absurd (omega (arith, same_head x 0x2D (xs ++ 0x2D ∷ us) vs e, p.0))
before_dash (x ∷ xs) (y ∷ ys) us vs p q e =
    let head = same_head x y (xs ++ 0x2D ∷ us) (ys ++ 0x2D ∷ vs) e in
    let tail = before_dash xs ys us vs p.1 q.1 (same_tail x y (xs ++ 0x2D ∷ us) (ys ++ 0x2D ∷ vs) e) in
    rw (head, tail) refl

-- ---- the number of two digits

short : (n : ℕ) → n < 10 → at_least_two_digits n ≡ 0x30 ∷ decimal n
short n l =
    let t : nat_lt n 10 ≡ true = grind arith in
    rw t refl

long : (n : ℕ) → 10 ≤ n → at_least_two_digits n ≡ decimal n
long n l =
    let t : nat_lt n 10 ≡ false = grind arith in
    rw t refl

-- a longer number does not begin with a zero
unlike : (m n : ℕ) → m < 10 → 10 ≤ n → n < 2 ^ 64 → at_least_two_digits m ≡ at_least_two_digits n → ⊥
unlike m n few many small e =
    let both : 0x30 ∷ decimal m ≡ decimal n = sym (short m few) ∙ e ∙ long n many in
    let zero_first : 0x30 ≡ get_or (decimal n) 0 0 = ap (λ (l : List ℕ). get_or l 0 0) both in
    omega (arith, zero_first, first_decimal n (omega (arith, many)) small)

same_number : (m n : ℕ) → m < 2 ^ 64 → n < 2 ^ 64 → at_least_two_digits m ≡ at_least_two_digits n → m ≡ n
same_number m n p q e = elim (cases_lt m 10) [
  | inl few ↦ elim (cases_lt n 10) [
    | inl few_too ↦ decimal_injective m n p q (same_tail 0x30 0x30 (decimal m) (decimal n) (sym (short m few) ∙ e ∙ short n few_too))
    | inr many ↦ absurd (unlike m n few many q e)
  ]
  | inr many ↦ elim (cases_lt n 10) [
    | inl few ↦ absurd (unlike n m few many p (sym e))
    | inr many_too ↦ decimal_injective m n p q (sym (long m many) ∙ e ∙ long n many_too)
  ]
]

pub names_differ : FileNamesDiffer
names_differ m n one other p q e =
    let first = encode_utf8_all (fitting 190 (map kept_char one)) in
    let second = encode_utf8_all (fitting 190 (map kept_char other)) in
    same_number m n p q (before_dash (at_least_two_digits m) (at_least_two_digits n) first second (number_digits m p) (number_digits n q) e)
