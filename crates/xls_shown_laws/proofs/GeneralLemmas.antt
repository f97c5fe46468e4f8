-- Numbers of at most ten digits under `General`.
use Rattle.std.proofs.Common.{◌≡◌, ℕ, zero, suc, ◌+◌, ◌-◌, ◌*◌, ◌/◌, ◌%◌, ◌^◌, ◌<◌, ◌≤◌, ◌==◌, ◌&&◌, ◌||◌, not, ◌++◌, List, [], ◌∷◌, Bool, true, false, nat_lt, if◌then◌else◌, refl, arith, lit<, sym, ap, ◌∙◌, inl, inr, codes}
use Rattle.std.specs.Prelude.{ℤ, pos, negsuc, ◌+ℤ◌, ◌-ℤ◌, ◌≤ℤ◌}
use Rattle.std.specs.Fmt.{decimal}
use Rattle.std.proofs.lemmas.Int.{ints}
use Rattle.std.proofs.lemmas.Bool.{cases_lt, cases_eq}
use Rattle.std.proofs.lemmas.Bool.Decides.{nat_tests}
use Rattle.std.proofs.lemmas.Nat.{pow-add, div-mul-add, mul-le}
use Rattle.std.proofs.lemmas.Fmt.{decimal_digit}
use Rattle.std.proofs.Math.Nat.{pow-suc, mul-div-mul_right, mul-lt-mul_of_pos_right, mul-le-mul_right, add-mul, eq_of_mul-eq-mul_right, mul_assoc, mul_comm, mul_right_comm}
use Rattle.std.proofs.Math.Path.{subst}
use Rattle.xls_rounding.specs.declared.decimals.Decimal.{Decimal}
use Rattle.xls_rounding.specs.Fractions.{Fraction, whole, ten_to, nearest, IsNatural, places, places_up_to}
use Rattle.xls_rounding.specs.FormulaNumbers.{before, without_zeros, with_point}
use Rattle.xls_rounding.specs.Rounding.{rounded, rounded_at, magnitude_of}
use Rattle.xls_rounding.proofs.PlaceLemmas.{ten_pos, ten_le}
use Rattle.xls_shown_numbers.specs.Digits.{last_digits}
use Rattle.xls_shown_numbers.specs.General.{fixed, fixed_form, ninths, is_exact_enough, exponent_form, general_at, general}

-- ---- zeros at the end

no_zero : (ds : List ℕ) → without_zeros (ds ++ 48 ∷ []) ≡ without_zeros ds
no_zero [] = refl
no_zero (d ∷ ds) = ap (before d) (no_zero ds)

fixed_zero : (n p : ℕ) → fixed (n * 10) (suc p) ≡ fixed n p
unfolding last_digits
fixed_zero n p =
    let over : n * 10 / 10 ^ suc p ≡ n / 10 ^ p = ap (λ t. n * 10 / t) (pow-suc 10 p) ∙ mul-div-mul_right n (10 ^ p) (omega arith) in
    let front : n * 10 / 10 ≡ n = omega arith in
    let last : n * 10 % 10 ≡ 0 = omega arith in
    ap (λ t. with_point (decimal t) (without_zeros (last_digits p (n * 10 / 10) ++ (48 + n * 10 % 10) ∷ []))) over
    ∙ ap (λ t. with_point (decimal (n / 10 ^ p)) (without_zeros (last_digits p t ++ (48 + n * 10 % 10) ∷ []))) front
    ∙ ap (λ t. with_point (decimal (n / 10 ^ p)) (without_zeros (last_digits p n ++ (48 + t) ∷ []))) last
    ∙ ap (λ ds. with_point (decimal (n / 10 ^ p)) ds) (no_zero (last_digits p n))

fixed_zeros : (s n p : ℕ) → fixed (n * 10 ^ s) (s + p) ≡ fixed n p
fixed_zeros zero n p =
    let same : n * 10 ^ 0 ≡ n = omega arith in
    let none : 0 + p ≡ p = omega arith in
    ap (λ t. fixed t (0 + p)) same ∙ ap (fixed n) none
fixed_zeros (suc s) n p =
    let same : n * 10 ^ suc s ≡ n * 10 ^ s * 10 = ap (λ t. n * t) (pow-suc 10 s) ∙ sym (mul_assoc n (10 ^ s) 10) in
    let more : suc s + p ≡ suc (s + p) = omega arith in
    ap (λ t. fixed t (suc s + p)) same ∙ ap (fixed (n * 10 ^ s * 10)) more ∙ fixed_zero (n * 10 ^ s) (s + p) ∙ fixed_zeros s n p

none_fixed : (p : ℕ) → codes "0" ≡ fixed 0 p
unfolding last_digits
none_fixed p =
    let none : 0 * 10 ^ p ≡ 0 = omega arith in
    let all : p + 0 ≡ p = omega arith in
    sym (decimal_digit 0 (lit< tt)) ∙ sym (fixed_zeros p 0 0) ∙ ap (λ t. fixed t (p + 0)) none ∙ ap (fixed 0) all

-- ---- the place of the first digit

-- a natural of c digits is at least 10 ^ (c - 1)
least : (f n c : ℕ) → places_up_to f n ≡ suc c → 10 ^ c ≤ n
unfolding places_up_to
least zero n c e = absurd (omega (arith, e))
least (suc f) zero c e = absurd (omega (arith, e))
least (suc f) (suc n) zero e = omega arith
least (suc f) (suc n) (suc c) e =
    let rest : places_up_to f (suc n / 10) ≡ suc c = omega (arith, e) in
    omega (arith, pow-suc 10 c, least f (suc n / 10) c rest)

some_places : (n : ℕ) → 0 < n → places n ≡ suc (places n - 1)
unfolding places places_up_to
some_places zero p = absurd (omega arith)
some_places (suc n) p = omega arith

first_digit : (n c : ℕ) → places n ≡ suc c → 10 ^ c ≤ n
unfolding places
first_digit n c e = least 640 n c e

below_power : (j k : ℕ) → 10 ^ j < 10 ^ k → j < k
below_power j k p = elim (cases_lt j k) [
  | inl less ↦ less
  | inr more ↦ absurd (omega (arith, ten_le k j more))
]

-- 10 ^ z times q is n, which has at most b digits
few : (q n c b : ℕ) (z : ℤ) → 10 ^ c ≤ q → n < 10 ^ b → IsNatural n (ten_to z (whole q)) → (pos c +ℤ z +ℤ pos 1) ≤ℤ pos b
few q n c b (pos j) p r e =
    let most : 10 ^ c * 10 ^ j ≤ q * 10 ^ j = mul-le-mul_right (10 ^ j) p in
    let all : 10 ^ (c + j) < 10 ^ b = omega (arith, pow-add 10 c j, most, e) in
    let less = below_power (c + j) b all in
    omega (arith, ints)
few q n c b (negsuc j) p r e =
    let some = ten_pos (j + 1) in
    let most : n * 10 ^ (j + 1) < 10 ^ b * 10 ^ (j + 1) = mul-lt-mul_of_pos_right r some in
    let all : 10 ^ c < 10 ^ (b + (j + 1)) = omega (arith, pow-add 10 b (j + 1), most, e) in
    let less = below_power c (b + (j + 1)) all in
    omega (arith, ints)

-- ---- equal fractions

same_nearest : (x y : Fraction) → 0 < x.denominator → 0 < y.denominator → x.numerator * y.denominator ≡ y.numerator * x.denominator → nearest x ≡ nearest y
same_nearest x y p q e =
    let a = x.numerator in
    let b = x.denominator in
    let c = y.numerator in
    let d = y.denominator in
    let left : (2 * a + b) / (2 * b) ≡ (2 * a + b) * d / (2 * b * d) = sym (mul-div-mul_right (2 * a + b) (2 * b) q) in
    let right : (2 * c + d) / (2 * d) ≡ (2 * c + d) * b / (2 * d * b) = sym (mul-div-mul_right (2 * c + d) (2 * d) p) in
    let over : (2 * a + b) * d ≡ (2 * c + d) * b =
    omega (arith, add-mul (2 * a) b d, add-mul (2 * c) d b, mul_assoc 2 a d, mul_assoc 2 c b, mul_comm d b, ap (λ t. 2 * t) e) in
    let under : 2 * b * d ≡ 2 * d * b = mul_right_comm 2 b d in
    left ∙ ap (λ t. t / (2 * b * d)) over ∙ ap (λ t. (2 * c + d) * b / t) under ∙ sym right

denominator_pos : (q : ℕ) (z : ℤ) → 0 < (ten_to z (whole q)).denominator
denominator_pos q (pos k) = omega arith
denominator_pos q (negsuc k) = omega (arith, ten_pos (k + 1))

-- nothing of a natural is rounded away
nothing_lost : (x : Fraction) (n : ℕ) → 0 < x.denominator → IsNatural n x → nearest x ≡ n
nothing_lost x n p e =
    let sum : 2 * x.numerator + x.denominator ≡ n * (2 * x.denominator) + x.denominator = omega (arith, ap (λ t. 2 * t) e) in
    ap (λ t. t / (2 * x.denominator)) sum ∙ div-mul-add n (2 * x.denominator) x.denominator (omega arith)

same_test : (x y : ℕ) → x ≡ y → (x == y) ≡ true
same_test x y e = grind (arith, nat_tests)

or_true : (b : Bool) → (b || true) ≡ true
or_true true = refl
or_true false = refl

-- ---- powers of ten

abbrev up : ℤ → ℕ
up (pos k) = k
up (negsuc k) = 0

abbrev down : ℤ → ℕ
down (pos k) = 0
down (negsuc k) = k + 1

apart : (z : ℤ) → pos (up z) -ℤ pos (down z) ≡ z
apart (pos k) = omega (arith, ints)
apart (negsuc k) = omega (arith, ints)

together : (z w : ℤ) → up (z +ℤ w) + down w + down z ≡ up z + (up w + down (z +ℤ w))
together z w = omega (arith, ints, apart z, apart w, apart (z +ℤ w))

numerator_is : (q : ℕ) (z : ℤ) → (ten_to z (whole q)).numerator ≡ q * 10 ^ up z
numerator_is q (pos k) = refl
numerator_is q (negsuc k) = omega arith

denominator_is : (q : ℕ) (z : ℤ) → (ten_to z (whole q)).denominator ≡ 10 ^ down z
denominator_is q (pos k) = refl
denominator_is q (negsuc k) = omega arith

joined : (n j k : ℕ) → n * 10 ^ j * 10 ^ k ≡ n * 10 ^ (j + k)
joined n j k = mul_assoc n (10 ^ j) (10 ^ k) ∙ ap (λ t. n * t) (sym (pow-add 10 j k))

cross : (q n a b c d f g : ℕ) → q * 10 ^ a ≡ n * 10 ^ b → g + d + b ≡ a + (c + f) → n * 10 ^ c * 10 ^ f ≡ q * 10 ^ g * 10 ^ d
cross q n a b c d f g e s =
    let both : n * 10 ^ c * 10 ^ f * 10 ^ b ≡ q * 10 ^ g * 10 ^ d * 10 ^ b =
    ap (λ t. t * 10 ^ b) (joined n c f) ∙ mul_right_comm n (10 ^ (c + f)) (10 ^ b) ∙ ap (λ t. t * 10 ^ (c + f)) (sym e)
    ∙ joined q a (c + f) ∙ ap (λ t. q * 10 ^ t) (sym s) ∙ sym (joined q (g + d) b) ∙ ap (λ t. t * 10 ^ b) (sym (joined q g d)) in
    eq_of_mul-eq-mul_right (10 ^ b) (ten_pos b) (n * 10 ^ c * 10 ^ f) (q * 10 ^ g * 10 ^ d) both

-- where ten_to z (whole q) is n, n times a power of ten is q times one
crossed : (q n : ℕ) (z w : ℤ) → IsNatural n (ten_to z (whole q)) → n * 10 ^ up w * 10 ^ down (z +ℤ w) ≡ q * 10 ^ up (z +ℤ w) * 10 ^ down w
crossed q n z w e =
    cross q n (up z) (down z) (up w) (down w) (down (z +ℤ w)) (up (z +ℤ w))
    (sym (numerator_is q z) ∙ e ∙ ap (λ t. n * t) (denominator_is q z)) (together z w)

more_natural : (q n s : ℕ) (z : ℤ) → IsNatural n (ten_to z (whole q)) → IsNatural (n * 10 ^ s) (ten_to (z +ℤ pos s) (whole q))
more_natural q n s z e =
    let one : q * 10 ^ up (z +ℤ pos s) * 10 ^ 0 ≡ q * 10 ^ up (z +ℤ pos s) = omega arith in
    numerator_is q (z +ℤ pos s) ∙ sym one ∙ sym (crossed q n z (pos s) e) ∙ ap (λ t. n * 10 ^ s * t) (sym (denominator_is q (z +ℤ pos s)))

-- rounded in two steps, of which the first loses nothing
twice_rounded : (q n : ℕ) (z w : ℤ) → IsNatural n (ten_to z (whole q)) → rounded n w ≡ rounded q (z +ℤ w)
twice_rounded q n z w e =
    same_nearest (ten_to w (whole n)) (ten_to (z +ℤ w) (whole q)) (denominator_pos n w) (denominator_pos q (z +ℤ w))
    (ap (λ t. t * (ten_to (z +ℤ w) (whole q)).denominator) (numerator_is n w) ∙ ap (λ t. n * 10 ^ up w * t) (denominator_is q (z +ℤ w))
    ∙ crossed q n z w e
    ∙ ap (λ t. t * 10 ^ down w) (sym (numerator_is q (z +ℤ w))) ∙ ap (λ t. (ten_to (z +ℤ w) (whole q)).numerator * t) (sym (denominator_is n w)))

-- ---- the text

natural_at : (q n s : ℕ) (z all : ℤ) → z +ℤ pos s ≡ all → IsNatural n (ten_to z (whole q)) → IsNatural (n * 10 ^ s) (ten_to all (whole q))
natural_at q n s z all f e = subst (λ t. IsNatural (n * 10 ^ s) (ten_to t (whole q))) f (more_natural q n s z e)

-- rounded at a place where nothing is lost
rounded_is : (d : Decimal) (n p s all : ℕ) → IsNatural n (ten_to (d.exponent +ℤ pos p) (whole d.digits)) → s + p ≡ all → rounded_at d (pos all) ≡ n * 10 ^ s
rounded_is d n p s all e f =
    let z : d.exponent +ℤ pos p +ℤ pos s ≡ d.exponent +ℤ pos all = omega (arith, ints) in
    nothing_lost (ten_to (d.exponent +ℤ pos all) (whole d.digits)) (n * 10 ^ s) (denominator_pos d.digits (d.exponent +ℤ pos all))
    (natural_at d.digits n s (d.exponent +ℤ pos p) (d.exponent +ℤ pos all) z e)

-- n / 10 ^ p, with s zeros more
fixed_shown : (d : Decimal) (n p s all : ℕ) → IsNatural n (ten_to (d.exponent +ℤ pos p) (whole d.digits)) → s + p ≡ all → fixed_form d all ≡ fixed n p
fixed_shown d n p s all e f = ap (λ t. fixed t all) (rounded_is d n p s all e f) ∙ ap (fixed (n * 10 ^ s)) (sym f) ∙ fixed_zeros s n p

is_some : (q n : ℕ) (z : ℤ) → 0 < q → IsNatural n (ten_to z (whole q)) → 0 < n
is_some q zero z p e =
    let least : 1 * 1 ≤ q * 10 ^ up z = mul-le 1 1 q (10 ^ up z) p (ten_pos (up z)) in
    let none : 0 * (ten_to z (whole q)).denominator ≡ 0 = omega arith in
    absurd (omega (arith, numerator_is q z, e, none))
is_some q (suc n) z p e = omega arith

is_none : (q n : ℕ) (z : ℤ) → q ≡ 0 → IsNatural n (ten_to z (whole q)) → n ≡ 0
is_none q zero z p e = refl
is_none q (suc n) z p e =
    let least : 1 * 1 ≤ suc n * (ten_to z (whole q)).denominator = mul-le 1 1 (suc n) _ (omega arith) (denominator_pos q z) in
    let none : q * 10 ^ up z ≡ 0 = ap (λ t. t * 10 ^ up z) p ∙ omega arith in
    absurd (omega (arith, numerator_is q z, e, none))

-- nine decimals are the number itself
exact : (d : Decimal) (k : ℤ) (n p : ℕ) → 0 < d.digits → p ≤ 9 → IsNatural n (ten_to (d.exponent +ℤ pos p) (whole d.digits)) → is_exact_enough d k ≡ true
exact d k n p some h e =
    let z : d.exponent +ℤ pos p +ℤ pos (9 - p) ≡ d.exponent +ℤ pos 9 = omega (arith, ints) in
    let ninth = natural_at d.digits n (9 - p) (d.exponent +ℤ pos p) (d.exponent +ℤ pos 9) z e in
    let is : rounded_at d (pos 9) ≡ n * 10 ^ (9 - p) = rounded_is d n p (9 - p) 9 e (omega arith) in
    let more : 0 < n * 10 ^ (9 - p) = is_some d.digits (n * 10 ^ (9 - p)) (d.exponent +ℤ pos 9) some ninth in
    let isnt_none : (rounded_at d (pos 9) == 0) ≡ false = grind (arith, nat_tests) in
    let w = negsuc 8 +ℤ (pos 5 -ℤ k) in
    let back : d.exponent +ℤ pos 9 +ℤ w ≡ d.exponent +ℤ (pos 5 -ℤ k) = omega (arith, ints) in
    let same : rounded_at (ninths d) (pos 5 -ℤ k) ≡ rounded_at d (pos 5 -ℤ k) =
    ap (λ t. rounded t w) is ∙ twice_rounded d.digits (n * 10 ^ (9 - p)) (d.exponent +ℤ pos 9) w ninth ∙ ap (rounded d.digits) back in
    ap (λ b. not b && (rounded_at (ninths d) (pos 5 -ℤ k) == rounded_at d (pos 5 -ℤ k))) isnt_none ∙ same_test _ _ same

at : (d : Decimal) (k : ℤ) (n p : ℕ) → 0 < d.digits → p ≤ 9 → (k +ℤ pos p) ≤ℤ pos 9 → IsNatural n (ten_to (d.exponent +ℤ pos p) (whole d.digits)) → general_at d k ≡ fixed n p
at d (pos k) n p some h few e =
    let sum : k + p ≤ 9 = omega (arith, ints) in
    let less : nat_lt k 10 ≡ true = grind (arith, nat_tests) in
    ap (λ b. if b || ((k == 10) && not (rounded_at d (pos 0) == 10 ^ 11)) then fixed_form d (9 - k) else exponent_form d (pos k)) less
    ∙ fixed_shown d n p (9 - k - p) (9 - k) e (omega arith)
at d (negsuc k) n p some h few e =
    ap (λ b. if nat_lt k 4 || b then fixed_form d 9 else exponent_form d (negsuc k)) (exact d (negsuc k) n p some h e)
    ∙ ap (λ b. if b then fixed_form d 9 else exponent_form d (negsuc k)) (or_true (nat_lt k 4))
    ∙ fixed_shown d n p (9 - p) 9 e (omega arith)

record Known (d : Decimal) (n p : ℕ) : Type 0 where
  some : 0 < d.digits
  is : IsNatural n (ten_to (d.exponent +ℤ pos p) (whole d.digits))

-- 0 apart; of other numbers of b digits the first counts less than 10 ^ (b - p)
by_place : (d : Decimal) (n p b : ℕ) → n < 10 ^ b → IsNatural n (ten_to (d.exponent +ℤ pos p) (whole d.digits))
    → (Known d n p → (magnitude_of d +ℤ pos p +ℤ pos 1) ≤ℤ pos b → general_at d (magnitude_of d) ≡ fixed n p) → general d ≡ fixed n p
by_place d n p b r e go = elim (cases_eq d.digits 0) [
  | inl none ↦
      let test : (d.digits == 0) ≡ true = grind (arith, nat_tests) in
      let zero_is : n ≡ 0 = is_none d.digits n (d.exponent +ℤ pos p) none e in
      ap (λ b. if b then codes "0" else general_at d (magnitude_of d)) test ∙ none_fixed p ∙ ap (λ t. fixed t p) (sym zero_is)
  | inr not_none ↦
      let some : 0 < d.digits = omega arith in
      let test : (d.digits == 0) ≡ false = grind (arith, nat_tests) in
      let c = places d.digits - 1 in
      let count : places d.digits ≡ suc c = some_places d.digits some in
      let all = few d.digits n c b (d.exponent +ℤ pos p) (first_digit d.digits c count) r e in
      ap (λ b. if b then codes "0" else general_at d (magnitude_of d)) test
      ∙ go (record { some = some; is = e }) (omega (arith, ints, all, count))
]

pub general_shows : (d : Decimal) (n p : ℕ) → n < 10 ^ 10 → p ≤ 9 → IsNatural n (ten_to (d.exponent +ℤ pos p) (whole d.digits)) → general d ≡ fixed n p
general_shows d n p r h e = by_place d n p 10 r e (λ known all. at d (magnitude_of d) n p known.some h (omega (arith, ints, all)) known.is)

-- ---- whole numbers

whole_at : (d : Decimal) (k : ℤ) (n : ℕ) → n < 10 ^ 11 → Known d n 0 → (k +ℤ pos 0 +ℤ pos 1) ≤ℤ pos 11 → general_at d k ≡ fixed n 0
whole_at d (pos k) n r known few = elim (cases_lt k 10) [
  | inl less ↦ at d (pos k) n 0 known.some (omega arith) (omega (arith, ints)) known.is
  | inr more ↦
      let ten : k ≡ 10 = omega (arith, ints) in
      let is : rounded_at d (pos 0) ≡ n * 10 ^ 0 = rounded_is d n 0 0 0 known.is (omega arith) in
      let same : n * 10 ^ 0 ≡ n = omega arith in
      let test : (rounded_at d (pos 0) == 10 ^ 11) ≡ false = grind (arith, nat_tests) in
      ap (λ t. general_at d (pos t)) ten
      ∙ ap (λ b. if not b then fixed_form d 0 else exponent_form d (pos 10)) test
      ∙ fixed_shown d n 0 0 0 known.is (omega arith)
]
whole_at d (negsuc k) n r known few = at d (negsuc k) n 0 known.some (omega arith) (omega (arith, ints)) known.is

pub general_whole : (d : Decimal) (n : ℕ) → n < 10 ^ 11 → IsNatural n (ten_to d.exponent (whole d.digits)) → general d ≡ decimal n
unfolding last_digits
general_whole d n r e =
    let z : d.exponent ≡ d.exponent +ℤ pos 0 = omega (arith, ints) in
    let is = subst (λ t. IsNatural n (ten_to t (whole d.digits))) z e in
    let one : n / 10 ^ 0 ≡ n = omega arith in
    by_place d n 0 11 r is (λ known all. whole_at d (magnitude_of d) n r known all) ∙ ap decimal one
