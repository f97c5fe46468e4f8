-- The decimal of 15 digits: its scale, and that of a whole number.
use Rattle.std.proofs.Common.{◌≡◌, ℕ, zero, suc, ◌+◌, ◌-◌, ◌*◌, ◌/◌, ◌^◌, ◌<◌, ◌≤◌, min, refl, arith, sym, ◌∙◌, ap, add-one}
use Rattle.std.specs.Prelude.{ℤ, pos, negsuc, ◌-ℤ◌, neg_ℤ}
use Rattle.std.proofs.lemmas.Int.{ints}
use Rattle.std.proofs.lemmas.Nat.{pow_pos, div-mul-add}
use Rattle.std.proofs.Math.Nat.{mul-le-mul_right, mul-le-mul_left, div-mul-le_self, lt-div-mul-add, mul-pos}
use Rattle.xls_rounding.specs.Fractions.{Fraction, whole, ten_to, nearest, IsBetween, IsNatural}
use Rattle.xls_rounding.specs.Limbs.{twice_at}
use Rattle.xls_rounding.proofs.PlaceLemmas.{ten_pos, ten_le}
use Rattle.xls_rounding.proofs.ScaleLemmas.{scale_up, scale_down, digits_by}

-- twice a fraction, rounded down, bounds the fraction
half_between : (x : Fraction) (f : ℕ) → 0 < x.denominator → f ≡ 2 * x.numerator / x.denominator → 200_000_000_000_000 ≤ f → f < 2_000_000_000_000_000
    → IsBetween (10 ^ 14) (10 ^ 15) x
half_between x f p is low high =
    let below : f * x.denominator ≤ 2 * x.numerator = rw is (div-mul-le_self (2 * x.numerator) x.denominator) in
    let above : 2 * x.numerator < f * x.denominator + x.denominator = rw is (lt-div-mul-add p) in
    let least : 200_000_000_000_000 * x.denominator ≤ f * x.denominator = mul-le-mul_right x.denominator low in
    let most : suc f * x.denominator ≤ 2_000_000_000_000_000 * x.denominator = mul-le-mul_right x.denominator high in
    (omega arith, omega arith)

between_by : (a b s f : ℕ) (z : ℤ) → 0 < b → z ≡ pos s -ℤ pos 308 → f ≡ 2 * a * 10 ^ s / (b * 10 ^ 308) → 200_000_000_000_000 ≤ f → f < 2_000_000_000_000_000
    → IsBetween (10 ^ 14) (10 ^ 15) (ten_to z (record { numerator = a; denominator = b }))
between_by a b s f (pos n) p e is low high =
    let off : 308 ≤ s = omega (arith, ints) in
    let n_is : n ≡ s - 308 = omega (arith, ints) in
    let same : 2 * a * 10 ^ (s - 308) ≡ 2 * (a * 10 ^ (s - 308)) = omega arith in
    rw n_is (half_between (record { numerator = a * 10 ^ (s - 308); denominator = b }) f p
    (is ∙ (scale_up (2 * a) b s 308 off ∙ ap (λ t. t / b) same)) low high)
between_by a b s f (negsuc n) p e is low high =
    let off : s ≤ 308 = omega (arith, ints) in
    let n_is : n + 1 ≡ 308 - s = omega (arith, ints) in
    rw n_is (half_between (record { numerator = a; denominator = b * 10 ^ (308 - s) }) f (mul-pos p (ten_pos (308 - s)))
    (is ∙ scale_down (2 * a) b s 308 off) low high)

-- at a scale of 15 digits nothing of a whole number below 10 ^ 15 is rounded away
whole_by : (a b n d : ℕ) (z e : ℤ) → 0 < b → IsBetween (10 ^ 14) (10 ^ 15) (ten_to z (record { numerator = a; denominator = b }))
    → nearest (ten_to z (record { numerator = a; denominator = b })) ≡ d → e ≡ neg_ℤ z → n < 10 ^ 15 → a ≡ n * b
    → IsNatural n (ten_to e (whole d))
whole_by a b n d (pos zero) e p within is up small same =
    let sum : 2 * (a * 10 ^ 0) + b ≡ n * (2 * b) + b = omega arith in
    let digits : d ≡ n = sym is ∙ (ap (λ t. t / (2 * b)) sum ∙ div-mul-add n (2 * b) b (omega arith)) in
    rw up (omega arith)
whole_by a b n d (pos (suc j)) e p within is up small same =
    let sum : 2 * (a * 10 ^ suc j) + b ≡ n * 10 ^ suc j * (2 * b) + b = omega (arith, ap (λ t. t * 10 ^ suc j) same) in
    let digits : d ≡ n * 10 ^ suc j = sym is ∙ (ap (λ t. t / (2 * b)) sum ∙ div-mul-add (n * 10 ^ suc j) (2 * b) b (omega arith)) in
    let one : 10 ^ (j + 1) ≡ 10 ^ suc j = rw add-one in
    rw (up, one) (omega arith)
whole_by a b n d (negsuc j) e p within is up small same =
    let ten : 10 ^ 1 ≤ 10 ^ (j + 1) = ten_le 1 (j + 1) (omega arith) in
    let more : b * 10 ^ 1 ≤ b * 10 ^ (j + 1) = mul-le-mul_left b ten in
    let less : suc n * b ≤ 1_000_000_000_000_000 * b = mul-le-mul_right b small in
    absurd (omega arith)

-- the clauses of the code's decimal
pub between_at : (m e s twice : ℕ) → twice ≡ min (twice_at m e s) (2 ^ 52) → 200_000_000_000_000 ≤ twice → twice < 2_000_000_000_000_000
    → IsBetween (10 ^ 14) (10 ^ 15) (ten_to (neg_ℤ (pos 308 -ℤ pos s)) (record { numerator = m * 2 ^ (e - 1075); denominator = 2 ^ (1075 - e) }))
unfolding twice_at
between_at m e s twice is low high =
    let z : neg_ℤ (pos 308 -ℤ pos s) ≡ pos s -ℤ pos 308 = omega (arith, ints) in
    between_by (m * 2 ^ (e - 1075)) (2 ^ (1075 - e)) s twice (neg_ℤ (pos 308 -ℤ pos s)) (pow_pos (1075 - e)) z (omega arith) low high

pub whole_at : (m e s twice n : ℕ) → twice ≡ min (twice_at m e s) (2 ^ 52) → 200_000_000_000_000 ≤ twice → twice < 2_000_000_000_000_000
    → n < 10 ^ 15 → m * 2 ^ (e - 1075) ≡ n * 2 ^ (1075 - e)
    → IsNatural n (ten_to (pos 308 -ℤ pos s) (whole ((twice + 1) / 2)))
unfolding twice_at
whole_at m e s twice n is low high small same =
    let z : pos s -ℤ pos 308 ≡ pos s -ℤ pos 308 = refl in
    let up : pos 308 -ℤ pos s ≡ neg_ℤ (pos s -ℤ pos 308) = omega (arith, ints) in
    let f : twice ≡ 2 * (m * 2 ^ (e - 1075)) * 10 ^ s / (2 ^ (1075 - e) * 10 ^ 308) = omega arith in
    whole_by (m * 2 ^ (e - 1075)) (2 ^ (1075 - e)) n ((twice + 1) / 2) (pos s -ℤ pos 308) (pos 308 -ℤ pos s) (pow_pos (1075 - e))
    (between_by (m * 2 ^ (e - 1075)) (2 ^ (1075 - e)) s twice (pos s -ℤ pos 308) (pow_pos (1075 - e)) z f low high)
    (digits_by (m * 2 ^ (e - 1075)) (2 ^ (1075 - e)) s (pos s -ℤ pos 308) (pow_pos (1075 - e)) z ∙ ap (λ t. (t + 1) / 2) (sym f))
    up small same
