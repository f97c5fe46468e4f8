use Rattle.std.proofs.Common.{◌≡◌, ℕ, ◌+◌, ◌-◌, ◌*◌, ◌/◌, ◌%◌, ◌^◌, ◌<◌, ◌≤◌, Some, None, refl, arith, ◌∙◌, true}
use Rattle.std.specs.Prelude.{if◌then◌else◌, nat_lt, ◌==◌}
use Rattle.std.proofs.lemmas.Bool.Decides.{nat_tests}
use Rattle.std.proofs.Math.Nat.{mod-eq_of_lt, mul-one}
use Rattle.std.proofs.Math.Pow.{pow_mono}
use Rattle.std.proofs.lemmas.Nat.{shr_le, mul-le}
use Rattle.std.proofs.Common.{◌⊎◌, inl, inr}
use Rattle.std.proofs.lemmas.Bool.{cases_lt}
use Rattle.std.proofs.Common.{lit≤, lit<}
use Rattle.std.proofs.lemmas.Bool.{lt-ltb, le-ltb}
use Rattle.std.proofs.Math.Bool.{and-true}
use Rattle.xls_bytes.specs.Doubles.{size_of_parts, whole_size, mantissa_of, up_of, down_of}

pub size_zero : size_of_parts 0 0 ≡ Some 0
unfolding size_of_parts
size_zero = refl

-- a number that is not 0 and below the divisor is not divisible
pub whole_size_low : (m k : ℕ) → 0 < m → m < 2 ^ k → whole_size m 0 k ≡ None
whole_size_low m k p q =
    let e : m * 2 ^ 0 ≡ m = mul-one m in
    let r : m % 2 ^ k ≡ m = mod-eq_of_lt q in
    rw (e, r) (grind (arith, nat_tests))

pub whole_size_high : (m k : ℕ) → 2 ^ 53 ≤ m * 2 ^ k → whole_size m k 0 ≡ None
whole_size_high m k p = grind (arith, nat_tests)

-- the parts of a double that is finite
pub size_finite : (e f m up down : ℕ) → e < 2047 → mantissa_of e f ≡ m → up_of e ≡ up → down_of e ≡ down → size_of_parts e f ≡ whole_size m up down
unfolding size_of_parts
size_finite e f m up down p a b c = rw (lt-ltb e 2047 p, a, b, c)

pub mantissa_above : (e f : ℕ) → 0 < e → mantissa_of e f ≡ 2 ^ 52 + f
mantissa_above e f p = grind (arith, nat_tests)

pub size_none_zero : (f : ℕ) → 0 < f → f < 2 ^ 52 → size_of_parts 0 f ≡ None
size_none_zero f p q =
    let big : 2 ^ 52 ≤ 2 ^ 1074 = lit≤ tt in
    size_finite 0 f f 0 1074 (lit< tt) refl refl refl ∙ whole_size_low f 1074 p (omega arith)

pub size_none_low : (e f : ℕ) → 0 < e → e < 1023 → f < 2 ^ 52 → size_of_parts e f ≡ None
size_none_low e f s p q =
    let big : 2 ^ 53 ≤ 2 ^ (1075 - e) = pow_mono {i = 53} {j = 1075 - e} (omega arith) in
    size_finite e f (2 ^ 52 + f) 0 (1075 - e) (omega arith) (mantissa_above e f s) (omega arith) (omega arith) ∙ whole_size_low (2 ^ 52 + f) (1075 - e) (omega arith) (omega arith)

pub size_none_high : (e f : ℕ) → 1075 < e → e < 2047 → size_of_parts e f ≡ None
size_none_high e f p q =
    let two : 2 ^ 1 ≤ 2 ^ (e - 1075) = pow_mono {i = 1} {j = e - 1075} (omega arith) in
    let big : 2 ^ 52 * 2 ≤ (2 ^ 52 + f) * 2 ^ (e - 1075) = mul-le (2 ^ 52) 2 (2 ^ 52 + f) (2 ^ (e - 1075)) (omega arith) two in
    size_finite e f (2 ^ 52 + f) (e - 1075) 0 q (mantissa_above e f (omega arith)) refl (omega arith) ∙ whole_size_high (2 ^ 52 + f) (e - 1075) (omega arith)

pub size_none_infinite : (e f : ℕ) → 2047 ≤ e → size_of_parts e f ≡ None
unfolding size_of_parts
size_none_infinite e f p = rw (le-ltb e 2047 p)

-- between, the size is what is left of the mantissa
pub size_between : (e f : ℕ) → 1023 ≤ e → e ≤ 1075 → f < 2 ^ 52 → size_of_parts e f ≡ (if (2 ^ 52 + f) % 2 ^ (1075 - e) == 0 then Some ((2 ^ 52 + f) / 2 ^ (1075 - e)) else None)
size_between e f p q r =
    let whole : (2 ^ 52 + f) * 2 ^ 0 ≡ 2 ^ 52 + f = mul-one (2 ^ 52 + f) in
    let small : (2 ^ 52 + f) / 2 ^ (1075 - e) ≤ 2 ^ 52 + f = shr_le (2 ^ 52 + f) (1075 - e) in
    let fits : nat_lt ((2 ^ 52 + f) / 2 ^ (1075 - e)) (2 ^ 53) ≡ true = lt-ltb _ _ (omega arith) in
    size_finite e f (2 ^ 52 + f) 0 (1075 - e) (omega arith) (mantissa_above e f (omega arith)) (omega arith) (omega arith) ∙ rw (whole, fits, and-true)

-- far from it, there is none
pub size_none_far : (e f : ℕ) → 0 < e → f < 2 ^ 52 → (e < 1023) ⊎ ((1023 ≤ e) × (1075 < e)) → size_of_parts e f ≡ None
size_none_far e f p q (inl low) = size_none_low e f p low q
size_none_far e f p q (inr high) =
    elim (cases_lt e 2047) [ inl fin ↦ size_none_high e f high.1 fin | inr inf ↦ size_none_infinite e f inf ]
