-- Codes of number formats and their decimal texts.
use Rattle.std.proofs.Common.{◌≡◌, ◌≢◌, ℕ, ◌+◌, ◌-◌, ◌*◌, ◌/◌, ◌%◌, ◌^◌, ◌<◌, ◌≤◌, refl, ap, ◌∙◌, sym, arith, Bool, true, false, List, [], ◌∷◌, ◌++◌, length, length-append, inl, inr}
use Rattle.std.specs.Fmt.{decimal}
use Rattle.std.proofs.lemmas.Bool.{cases_lt}
use Rattle.std.proofs.lemmas.Bool.Decides.{nat_tests}
use Rattle.std.proofs.lemmas.Fmt.{decimal_digit, decimal_step, decimal_nonempty}
use Rattle.xls_dates.specs.declared.formats.CellFormat.TheVariants.{Other}
use Rattle.xls_dates.specs.Builtin.{between, class_of_code, class_of_id}

code_low : (n : ℕ) → n < 10 → class_of_code n ≡ Other
code_low n p = grind (arith, nat_tests)

code_high : (n : ℕ) → 100 ≤ n → class_of_code n ≡ Other
code_high n p = grind (arith, nat_tests)

-- a text of more than two bytes is no code of a date or duration
id_long : (ds : List ℕ) → 2 < length ds → class_of_id ds ≡ Other
id_long [] p = refl
id_long (a ∷ []) p = refl
id_long (a ∷ b ∷ []) p = absurd (omega arith)
id_long (a ∷ b ∷ d ∷ ds) p = refl

between_true : (low high n : ℕ) → low ≤ n → n ≤ high → between low high n ≡ true
between_true low high n p q = grind (arith, nat_tests)

between_low : (low high n : ℕ) → between low high n ≡ true → low ≤ n
between_low low high n t = grind (arith, nat_tests)

between_high : (low high n : ℕ) → between low high n ≡ true → n ≤ high
between_high low high n t = grind (arith, nat_tests)

-- two digits
decimal_two : (n : ℕ) → 10 ≤ n → n < 100 → decimal n ≡ (48 + n / 10) ∷ (48 + n % 10) ∷ []
decimal_two n p q =
    let step = decimal_step n p (omega arith) in
    let first = decimal_digit (n / 10) (omega arith) in
    step ∙ ap (λ ds. ds ++ ((48 + n % 10) ∷ [])) first

id_two : (n : ℕ) → 10 ≤ n → n < 100 → class_of_id ((48 + n / 10) ∷ (48 + n % 10) ∷ []) ≡ class_of_code n
id_two n p q =
    let tens : between 49 57 (48 + n / 10) ≡ true = between_true 49 57 (48 + n / 10) (omega arith) (omega arith) in
    let ones : between 48 57 (48 + n % 10) ≡ true = between_true 48 57 (48 + n % 10) (omega arith) (omega arith) in
    let value : (48 + n / 10 - 48) * 10 + (48 + n % 10 - 48) ≡ n = omega arith in
    rw (tens, ones, value)

decimal_long : (n : ℕ) → 100 ≤ n → n < 2 ^ 64 → 2 < length (decimal n)
decimal_long n p q =
    let last = decimal_step n (omega arith) q in
    let before = decimal_step (n / 10) (omega arith) (omega arith) in
    let some = decimal_nonempty (n / 10 / 10) (omega arith) in
    omega (arith, ap length last ∙ length-append (decimal (n / 10)) _, ap length before ∙ length-append (decimal (n / 10 / 10)) _)

-- the class of a decimal text is that of the number
pub class_of_id-decimal : (n : ℕ) → n < 2 ^ 64 → class_of_id (decimal n) ≡ class_of_code n
class_of_id-decimal n q = elim (cases_lt n 10) [
  | inl one ↦ ap class_of_id (decimal_digit n one) ∙ sym (code_low n one)
  | inr more ↦ elim (cases_lt n 100) [
    | inl two ↦ ap class_of_id (decimal_two n more two) ∙ id_two n more two
    | inr long ↦ id_long (decimal n) (decimal_long n long q) ∙ sym (code_high n long)
  ]
]

-- a text of two digits that is no decimal text has no class
two_other : (a b : ℕ) (s t : Bool) → between 49 57 a ≡ s → between 48 57 b ≡ t → ((n : ℕ) → n < 2 ^ 16 → a ∷ b ∷ [] ≢ decimal n) → class_of_id (a ∷ b ∷ []) ≡ Other
two_other a b false t e f none = rw e
two_other a b true false e f none = rw (e, f)
two_other a b true true e f none =
    let first = between_low 49 57 a e in
    let first_high = between_high 49 57 a e in
    let second = between_low 48 57 b f in
    let second_high = between_high 48 57 b f in
    let n : ℕ = (a - 48) * 10 + (b - 48) in
    let tens : 48 + n / 10 ≡ a = omega arith in
    let ones : 48 + n % 10 ≡ b = omega arith in
    let whole : decimal n ≡ a ∷ b ∷ [] = decimal_two n (omega arith) (omega arith) ∙ ap (λ x. x ∷ (48 + n % 10) ∷ []) tens ∙ ap (λ y. a ∷ y ∷ []) ones in
    absurd (none n (omega arith) (sym whole))

pub class_of_id-other : (id : List ℕ) → ((n : ℕ) → n < 2 ^ 16 → id ≢ decimal n) → class_of_id id ≡ Other
class_of_id-other [] none = refl
class_of_id-other (a ∷ []) none = refl
class_of_id-other (a ∷ b ∷ []) none = two_other a b (between 49 57 a) (between 48 57 b) refl refl none
class_of_id-other (a ∷ b ∷ d ∷ ds) none = refl
