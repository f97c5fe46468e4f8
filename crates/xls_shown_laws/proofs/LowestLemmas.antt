-- Convergents are in lowest terms.
use Rattle.std.proofs.Common.{◌≡◌, ℕ, zero, suc, ◌+◌, ◌-◌, ◌*◌, ◌%◌, Bool, true, false, ◌==◌, if◌then◌else◌, List, [], ◌∷◌, None, ◌⊎◌, inl, inr, refl, ap, sym, ◌∙◌, arith}
use Rattle.std.proofs.lemmas.Bool.Decides.{nat_tests}
use Rattle.std.proofs.lemmas.Nat.{mod-mul-add}
use Rattle.std.proofs.Math.Nat.{mul-sub, mul_comm, mul_assoc, mul_right_comm, add-mul, mul-add}
use Rattle.std.specs.Float.{Float, fract, binary64}
use Rattle.xls_shown_fractions.specs.declared.needs.Fraction.{Fraction}
use Rattle.xls_shown_fractions.specs.Ratios.{Mixed, size_of, quotients, next_of, fits, last_within, nearest_fraction, large_of, small_of, improper, proper, ratio_of}
use Rattle.xls_shown_laws.specs.Fractions.{IsLowest}
use Rattle.xls_shown_laws.proofs.FractionLemmas.{either}

-- two fractions a / b and c / d whose cross products differ by 1
AreNext : ℕ → ℕ → ℕ → ℕ → Type 0
AreNext a b c d = (a * d ≡ c * b + 1) ⊎ (c * b ≡ a * d + 1)

-- the next convergent is next to the last one
next_next : (q a b c d : ℕ) → AreNext a b c d → AreNext c d (q * c + a) (q * d + b)
unfolding AreNext
next_next q a b c d h =
    let right : c * (q * d + b) ≡ q * c * d + c * b = mul-add c (q * d) b ∙ ap (λ t. t + c * b) (sym (mul_assoc c q d) ∙ ap (λ t. t * d) (mul_comm c q)) in
    let left : (q * c + a) * d ≡ q * c * d + a * d = add-mul (q * c) a d in
    elim h [
      | inl e ↦ inr (omega (arith, right, left, e))
      | inr e ↦ inl (omega (arith, right, left, e))
    ]

-- no natural but 1 divides 1
divides_one : (k x y : ℕ) → x * k ≡ y * k + 1 → k ≡ 1
divides_one zero x y e = absurd (omega (arith, e))
divides_one (suc zero) x y e = refl
divides_one (suc (suc k)) x y e =
    let none = mod-mul-add x (suc (suc k)) 0 (omega arith) in
    let one = mod-mul-add y (suc (suc k)) 1 (omega arith) in
    let same : x * suc (suc k) + 0 ≡ y * suc (suc k) + 1 = omega (arith, e) in
    let zero_one : 0 ≡ 1 = sym none ∙ ap (λ t. t % suc (suc k)) same ∙ one in
    absurd (omega (arith, zero_one))

is_lowest : (a b n d : ℕ) → AreNext a b n d → IsLowest n d
unfolding AreNext
is_lowest a b n d h k x y e f =
    let over : a * d ≡ a * y * k = ap (λ t. a * t) (sym f) ∙ sym (mul_assoc a y k) in
    let under : n * b ≡ x * b * k = ap (λ t. t * b) (sym e) ∙ mul_right_comm x k b in
    elim h [
      | inl g ↦ divides_one k (a * y) (x * b) (omega (arith, over, under, g))
      | inr g ↦ divides_one k (x * b) (a * y) (omega (arith, over, under, g))
    ]

chosen : (P : ℕ × ℕ → Type 0) (b : Bool) (x y : ℕ × ℕ) → P x → P y → P (if b then x else y)
chosen P true x y f g = f
chosen P false x y f g = g

lowest : (most a b n d : ℕ) (qs : List ℕ) → AreNext a b n d → IsLowest (last_within most (a, b) (n, d) qs).0 (last_within most (a, b) (n, d) qs).1
lowest most a b n d [] h = is_lowest a b n d h
lowest most a b n d (q ∷ qs) h =
    chosen (λ c. IsLowest c.0 c.1) (fits most (next_of q (n, d) (a, b))) _ (n, d)
    (lowest most n d (q * n + a) (q * d + b) qs (next_next q a b n d h)) (is_lowest a b n d h)

first_next : AreNext 1 0 0 1
unfolding AreNext
first_next = inl refl

pub nearest_lowest : (places : ℕ) (x : Float) → IsLowest (nearest_fraction places x).0 (nearest_fraction places x).1
nearest_lowest places x = lowest _ 1 0 0 1 (quotients 45 x) first_next

-- ---- with the whole part

improper_lowest : (w n d : ℕ) → IsLowest n d → IsLowest (w * d + n) d
improper_lowest w n d h k a b e f =
    let whole : w * d ≡ w * b * k = ap (λ t. w * t) (sym f) ∙ sym (mul_assoc w b k) in
    let left : (a - w * b) * k ≡ a * k - w * b * k = mul_comm (a - w * b) k ∙ mul-sub k a (w * b) ∙ ap (λ t. t - k * (w * b)) (mul_comm k a) ∙ ap (λ t. a * k - t) (mul_comm k (w * b)) in
    h k (a - w * b) b (omega (arith, whole, left, e)) f

one_lowest : (n : ℕ) → IsLowest n 1
one_lowest n k a b e f = divides_one k b 0 (omega (arith, f))

IsLowestMixed : Mixed → Type 0
IsLowestMixed m = IsLowest m.numerator m.denominator

-- where both parts are the same, they are 1
carried : (b : Bool) (m : Mixed) → (b ≡ true → m.numerator ≡ m.denominator) → IsLowestMixed m
    → IsLowestMixed (if b then record { whole = m.whole + 1; numerator = 0; denominator = m.denominator } else m)
unfolding IsLowestMixed
carried true m same h k x y e f =
    let one : m.denominator ≡ 1 = h m.denominator 1 1 (omega (arith, same refl)) (omega arith) in
    divides_one k y 0 (omega (arith, f, one))
carried false m same h k x y e f = h k x y e f

proper_lowest : (m : Mixed) → IsLowestMixed m → IsLowestMixed (proper m)
proper_lowest m h = carried _ m (λ e. grind (arith, nat_tests, e)) h

placed_by : (b : Bool) (m : Mixed) → IsLowestMixed m → IsLowestMixed (if b then improper m else proper m)
unfolding IsLowestMixed
placed_by true m h = improper_lowest m.whole m.numerator m.denominator h
placed_by false m h = proper_lowest m h

either_lowest : (f : Fraction) (bits : ℕ) (b : Bool) → f.fixed ≡ None → IsLowestMixed (if b then large_of f bits else small_of f (size_of bits))
unfolding IsLowestMixed
either_lowest f bits b none =
    either f bits b IsLowestMixed (rw none (one_lowest 0)) (rw none (nearest_lowest f.places (fract binary64 (size_of bits))))

pub ratio_lowest : (f : Fraction) (bits : ℕ) → f.fixed ≡ None → IsLowest (ratio_of f bits).numerator (ratio_of f bits).denominator
unfolding IsLowestMixed
ratio_lowest f bits none = placed_by (f.whole == 0) _ (either_lowest f bits _ none)
