-- Naturals as limbs.
use Rattle.std.proofs.Common.{◌≡◌, ℕ, zero, suc, ◌+◌, ◌-◌, ◌*◌, ◌/◌, ◌%◌, ◌^◌, ◌<◌, ◌≤◌, List, [], ◌∷◌, ◌++◌, length, get_or, set, take, drop, replicate, refl, arith, sym, ◌∙◌, ap, add-one}
use Rattle.std.proofs.lemmas.Nat.{pow-add, mul-le, div-mul-add}
use Rattle.std.proofs.Common.{inl, inr, min}
use Rattle.std.proofs.lemmas.Bool.{cases_eq}
use Rattle.std.proofs.Math.Nat.{mul-le-mul_right, mul-le-mul_left, pos_of_ne-zero, lt_of_le_of_lt, mul_assoc, mul_comm, div-div-eq-div-mul, div-one, zero-div, pow-le-pow_right}
use Rattle.std.proofs.Math.Pow.{pow_mono}
use Rattle.std.proofs.Common.{lit<}
use Rattle.std.proofs.lemmas.List.{take_all, drop_all, drop_more, drop-set, take_more, take_more_set, length-take-le}
use Rattle.xls_rounding.specs.Limbs.{value, weight}

pub value-nil : value [] ≡ 0
unfolding value
value-nil = refl

pub value-cons : (x : ℕ) (xs : List ℕ) → value (x ∷ xs) ≡ x + value xs * 2 ^ 64
unfolding value
value-cons x xs = refl

pub weight-zero : weight 0 ≡ 1
unfolding weight
weight-zero = refl

pub weight-suc : (i : ℕ) → weight (i + 1) ≡ weight i * 2 ^ 64
unfolding weight
weight-suc i =
    let e : 64 * (i + 1) ≡ 64 * i + 64 = omega arith in
    rw (e, pow-add 2 (64 * i) 64)

pub value-push : (xs : List ℕ) (y : ℕ) → value (xs ++ y ∷ []) ≡ value xs + y * weight (length xs)
value-push [] y = rw (value-cons, value-nil, weight-zero) (omega arith)
value-push (x ∷ xs) y =
    let more : weight (suc (length xs)) ≡ weight (length xs) * 2 ^ 64 = rw (← add-one) (weight-suc (length xs)) in
    let inner = value-push xs y in
    rw (value-cons, inner, value-cons, more) (omega arith)

-- one limb of a multiplication
pub multiply_more : (old now : List ℕ) (i by carry low high : ℕ) → i < length old → i < length now → get_or now i 0 ≡ get_or old i 0
    → value (take i now) + carry * weight i ≡ value (take i old) * by
    → low + high * 2 ^ 64 ≡ get_or now i 0 * by + carry
    → value (take (i + 1) (set now i low)) + high * weight (i + 1) ≡ value (take (i + 1) old) * by
multiply_more old now i by carry low high p q same done step =
    let n : length (take i now) ≡ i = length-take-le i now (omega arith) in
    let o : length (take i old) ≡ i = length-take-le i old (omega arith) in
    let a : value (take (i + 1) (set now i low)) ≡ value (take i now) + low * weight i =
    ap value (take_more_set now i low q) ∙ (value-push (take i now) low ∙ rw n) in
    let b : value (take (i + 1) old) ≡ value (take i old) + get_or old i 0 * weight i =
    ap value (take_more old i 0 p) ∙ (value-push (take i old) (get_or old i 0) ∙ rw o) in
    let limb : low + high * 2 ^ 64 ≡ get_or old i 0 * by + carry = rw (← same) step in
    let w = ap (λ t. t * weight i) limb in
    rw (a, b, weight-suc i) (omega (arith, w))

pub multiply_none : (xs : List ℕ) (by : ℕ) → value (take 0 xs) + 0 * weight 0 ≡ value (take 0 xs) * by
multiply_none xs by = rw value-nil (omega arith)

pub multiply_all : (old now : List ℕ) (by carry : ℕ) → length now ≡ length old
    → value (take (length old) now) + carry * weight (length old) ≡ value (take (length old) old) * by
    → value old * by < weight (length old) → value now ≡ value old * by
multiply_all old now by carry same done fits =
    let n : take (length old) now ≡ now = take_all (length old) now (omega arith) in
    let o : take (length old) old ≡ old = take_all (length old) old (omega arith) in
    let all : value now + carry * weight (length old) ≡ value old * by = rw (n, o) at done in
    elim (cases_eq carry 0) [
      | inl none ↦ omega (arith, ap (λ t. t * weight (length old)) none)
      | inr some ↦
          let more : 1 * weight (length old) ≤ carry * weight (length old) = mul-le-mul_right (weight (length old)) (pos_of_ne-zero some) in
          absurd (omega arith)
    ]

-- one limb of a division
pub divide_more : (old now : List ℕ) (i by rest quotient next : ℕ) → i < length old → i < length now → get_or now i 0 ≡ get_or old i 0
    → value (drop (i + 1) now) * by + rest ≡ value (drop (i + 1) old)
    → quotient * by + next ≡ rest * 2 ^ 64 + get_or now i 0
    → value (drop i (set now i quotient)) * by + next ≡ value (drop i old)
divide_more old now i by rest quotient next p q same done step =
    let a : value (drop i (set now i quotient)) ≡ quotient + value (drop (i + 1) now) * 2 ^ 64 =
    ap value (drop-set now i quotient q) ∙ value-cons quotient (drop (i + 1) now) in
    let b : value (drop i old) ≡ get_or old i 0 + value (drop (i + 1) old) * 2 ^ 64 =
    ap value (drop_more old i 0 p) ∙ value-cons (get_or old i 0) (drop (i + 1) old) in
    rw (a, b) (omega arith)

pub divide_none : (old : List ℕ) (by : ℕ) → value (drop (length old) old) * by + 0 ≡ value (drop (length old) old)
divide_none old by = let none : drop (length old) old ≡ [] = drop_all (length old) old (omega arith) in rw (none, value-nil) (omega arith)

pub divide_all : (old now : List ℕ) (by rest : ℕ) → rest < by → value now * by + rest ≡ value old → value now ≡ value old / by
divide_all old now by rest p e = sym (ap (λ t. t / by) (sym e) ∙ div-mul-add (value now) by rest p)

-- one limb more of a number that is only known up to a bound
pub capped_some : (xs : List ℕ) (i : ℕ) → i < length xs → 0 < min (value (drop (i + 1) xs)) (2 ^ 52) → 2 ^ 52 ≡ min (value (drop i xs)) (2 ^ 52)
capped_some xs i p q =
    let b : value (drop i xs) ≡ get_or xs i 0 + value (drop (i + 1) xs) * 2 ^ 64 =
    ap value (drop_more xs i 0 p) ∙ value-cons (get_or xs i 0) (drop (i + 1) xs) in
    omega arith

pub capped_zero : (xs : List ℕ) (i : ℕ) → i < length xs → min (value (drop (i + 1) xs)) (2 ^ 52) ≡ 0
    → min (get_or xs i 0) (2 ^ 52) ≡ min (value (drop i xs)) (2 ^ 52)
capped_zero xs i p q =
    let b : value (drop i xs) ≡ get_or xs i 0 + value (drop (i + 1) xs) * 2 ^ 64 =
    ap value (drop_more xs i 0 p) ∙ value-cons (get_or xs i 0) (drop (i + 1) xs) in
    omega arith

pub capped_none : (xs : List ℕ) → 0 ≡ min (value (drop (length xs) xs)) (2 ^ 52)
capped_none xs = let none : drop (length xs) xs ≡ [] = drop_all (length xs) xs (omega arith) in rw (none, value-nil)

-- ---- powers, a part at a time

five_le : (j k : ℕ) → j ≤ k → 5 ^ j ≤ 5 ^ k
five_le j k p = pow-le-pow_right {n = 5} (lit< tt) p

pub five_short : (k : ℕ) → k ≤ 27 → 5 ^ k < 2 ^ 64
five_short k p = let most : 5 ^ k ≤ 5 ^ 27 = five_le k 27 p in omega arith

pub fives_fit : (x k left all most : ℕ) → k ≤ left → x * 5 ^ left ≡ all → all < most → x * 5 ^ k < most
fives_fit x k left all most p e fits =
    let less : x * 5 ^ k ≤ x * 5 ^ left = mul-le-mul_left x (five_le k left p) in
    omega arith

split : (b k n : ℕ) → k ≤ n → b ^ k * b ^ (n - k) ≡ b ^ n
split b k n p =
    let e : k + (n - k) ≡ n = omega arith in
    sym (pow-add b k (n - k)) ∙ ap (λ t. b ^ t) e

pub fives_more : (x left : ℕ) → 27 ≤ left → (x * 5 ^ 27) * 5 ^ (left - 27) ≡ x * 5 ^ left
fives_more x left p = mul_assoc x (5 ^ 27) (5 ^ (left - 27)) ∙ ap (λ t. x * t) (split 5 27 left p)

pub tens_more : (x left : ℕ) → 19 ≤ left → x / 10 ^ 19 / 10 ^ (left - 19) ≡ x / 10 ^ left
tens_more x left p = div-div-eq-div-mul x (10 ^ 19) (10 ^ (left - 19)) ∙ ap (λ t. x / t) (split 10 19 left p)

-- ---- one limb alone, and the limbs from one on

value_zeros : (n : ℕ) → value (replicate n 0) ≡ 0
value_zeros zero = value-nil
value_zeros (suc n) = value-cons 0 (replicate n 0) ∙ omega (arith, value_zeros n)

pub value_first : (x n : ℕ) → value (x ∷ replicate n 0) ≡ x
value_first x n = value-cons x (replicate n 0) ∙ omega (arith, value_zeros n)

pub value_alone : (n i x : ℕ) → i < n → value (set (replicate n 0) i x) ≡ x * weight i
value_alone zero i x p = absurd (omega arith)
value_alone (suc n) zero x p = value_first x n ∙ rw weight-zero (omega arith)
value_alone (suc n) (suc i) x p =
    let more : weight (suc i) ≡ weight i * 2 ^ 64 = rw (← add-one) (weight-suc i) in
    value-cons 0 (set (replicate n 0) i x) ∙ rw (value_alone n i x (omega arith), more) (omega arith)

pub value-drop : (xs : List ℕ) (i : ℕ) → ((k : ℕ) → get_or xs k 0 < 2 ^ 64) → value (drop i xs) ≡ value xs / weight i
value-drop xs zero fits = sym (rw weight-zero (div-one (value xs)))
value-drop [] (suc i) fits = rw value-nil (sym (zero-div (weight (suc i))))
value-drop (x ∷ xs) (suc i) fits =
    let more : weight (suc i) ≡ 2 ^ 64 * weight i = rw (← add-one) (weight-suc i ∙ mul_comm (weight i) (2 ^ 64)) in
    let low : x < 2 ^ 64 = fits 0 in
    let number : value (x ∷ xs) ≡ value xs * 2 ^ 64 + x = value-cons x xs ∙ omega arith in
    let high : (value xs * 2 ^ 64 + x) / 2 ^ 64 ≡ value xs = div-mul-add (value xs) (2 ^ 64) x low in
    value-drop xs i (λ k. fits (suc k))
    ∙ sym (rw (more, number) (sym (div-div-eq-div-mul (value xs * 2 ^ 64 + x) (2 ^ 64) (weight i)) ∙ ap (λ t. t / weight i) high))

-- whole limbs and the bits that are left
weight_rest : (d : ℕ) → weight (d / 64) * 2 ^ (d % 64) ≡ 2 ^ d
unfolding weight
weight_rest d =
    let e : 64 * (d / 64) + d % 64 ≡ d = omega arith in
    sym (pow-add 2 (64 * (d / 64)) (d % 64)) ∙ ap (λ t. 2 ^ t) e

pub shifted : (n d : ℕ) → n / 2 ^ (d % 64) / weight (d / 64) ≡ n / 2 ^ d
shifted n d =
    div-div-eq-div-mul n (2 ^ (d % 64)) (weight (d / 64))
    ∙ ap (λ t. n / t) (mul_comm (2 ^ (d % 64)) (weight (d / 64)) ∙ weight_rest d)

pub placed : (m u : ℕ) → (m * weight (u / 64)) * 2 ^ (u % 64) ≡ m * 2 ^ u
placed m u = mul_assoc m (weight (u / 64)) (2 ^ (u % 64)) ∙ ap (λ t. m * t) (weight_rest u)

-- ---- 17 limbs have room

pub product_fits : (m k : ℕ) → m < 2 ^ 53 → k ≤ 323 → m * 5 ^ k < weight 17
unfolding weight
product_fits m k p q =
    let most : m * 5 ^ k ≤ 2 ^ 53 * 5 ^ 323 = mul-le m (5 ^ k) (2 ^ 53) (5 ^ 323) (omega arith) (five_le k 323 q) in
    lt_of_le_of_lt most (lit< tt)

pub shift_fits : (m u : ℕ) → m < 2 ^ 53 → u ≤ 973 → m * 2 ^ u < weight 17
unfolding weight
shift_fits m u p q =
    let most : m * 2 ^ u ≤ 2 ^ 53 * 2 ^ 973 = mul-le m (2 ^ u) (2 ^ 53) (2 ^ 973) (omega arith) (pow_mono {i = u} {j = 973} q) in
    lt_of_le_of_lt most (lit< tt)
