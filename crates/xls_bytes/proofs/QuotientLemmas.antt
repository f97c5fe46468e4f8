-- The quotient of a double's parts, region by region of its exponent field.
use Rattle.std.proofs.Common.{◌≡◌, ℕ, ◌+◌, ◌-◌, ◌*◌, ◌/◌, ◌^◌, ◌<◌, ◌≤◌, refl, arith, ◌∙◌, sym, subst, inl, inr}
use Rattle.std.proofs.lemmas.Nat.{mul-le, le-div}
use Rattle.std.proofs.Math.Nat.{div-eq_of_lt, mul-one, div-le_self}
use Rattle.std.proofs.Math.Pow.{pow_mono}
use Rattle.std.proofs.lemmas.Bool.{cases_eq}
use Rattle.xls_bytes.proofs.SizeLemmas.{mantissa_above}
use Rattle.xls_bytes.specs.Doubles.{quotient_of, mantissa_of, up_of, down_of}

-- a quotient of parts that are known
quotient_parts : (e f k m up down : ℕ) → mantissa_of e f ≡ m → up_of e ≡ up → down_of e ≡ down
    → quotient_of e f k ≡ m * 2 ^ up / (k * 2 ^ down)
unfolding quotient_of
quotient_parts e f k m up down a b c = rw (a, b, c)

-- below 2 ^ 53 over more is nothing
quotient_small : (m k down : ℕ) → m < 2 ^ 53 → 53 ≤ down → 0 < k → m * 2 ^ 0 / (k * 2 ^ down) ≡ 0
quotient_small m k down p q r =
    let whole : m * 2 ^ 0 ≡ m = mul-one m in
    let big : 2 ^ 53 ≤ 2 ^ down = pow_mono {i = 53} {j = down} q in
    let more : 1 * 2 ^ 53 ≤ k * 2 ^ down = mul-le 1 (2 ^ 53) k (2 ^ down) (omega arith) big in
    rw whole (div-eq_of_lt (omega arith))

-- a value below 1 in size
pub quotient_low : (e f k : ℕ) → e < 1023 → f < 2 ^ 52 → 0 < k → quotient_of e f k ≡ 0
quotient_low e f k p q r = elim (cases_eq e 0) [
  | inl zero_field ↦
      subst (λ (x : ℕ). quotient_of x f k ≡ 0) (sym zero_field)
      (quotient_parts 0 f k f 0 1074 refl refl refl ∙ quotient_small f k 1074 (omega arith) (omega arith) r)
  | inr above ↦
      quotient_parts e f k (2 ^ 52 + f) 0 (1075 - e) (mantissa_above e f (omega arith)) (omega arith) (omega arith)
      ∙ quotient_small (2 ^ 52 + f) k (1075 - e) (omega arith) (omega arith) r
]

-- a value of at least 1 whose exponent is not positive
pub quotient_between : (e f k : ℕ) → 1023 ≤ e → e ≤ 1075 → f < 2 ^ 52
    → quotient_of e f k ≡ (2 ^ 52 + f) / (k * 2 ^ (1075 - e))
quotient_between e f k p q r =
    let whole : (2 ^ 52 + f) * 2 ^ 0 ≡ 2 ^ 52 + f = mul-one (2 ^ 52 + f) in
    quotient_parts e f k (2 ^ 52 + f) 0 (1075 - e) (mantissa_above e f (omega arith)) (omega arith) (omega arith) ∙ rw whole

-- a value whose exponent is positive
pub quotient_above : (e f k : ℕ) → 1075 < e → quotient_of e f k ≡ (2 ^ 52 + f) * 2 ^ (e - 1075) / k
quotient_above e f k p =
    let whole : k * 2 ^ 0 ≡ k = mul-one k in
    quotient_parts e f k (2 ^ 52 + f) (e - 1075) 0 (mantissa_above e f (omega arith)) refl (omega arith) ∙ rw whole

-- one far out of range
pub quotient_high : (e f k : ℕ) → 1139 < e → k < 2 ^ 8 → 0 < k → 2 ^ 64 ≤ quotient_of e f k
quotient_high e f k p q r =
    let big : 2 ^ 64 ≤ 2 ^ (e - 1075) = pow_mono {i = 64} {j = e - 1075} (omega arith) in
    let product : 2 ^ 52 * 2 ^ 64 ≤ (2 ^ 52 + f) * 2 ^ (e - 1075) = mul-le (2 ^ 52) (2 ^ 64) (2 ^ 52 + f) (2 ^ (e - 1075)) (omega arith) big in
    rw (quotient_above e f k (omega arith)) (le-div (2 ^ 64) ((2 ^ 52 + f) * 2 ^ (e - 1075)) k r (omega arith))

pub quotient_between_below : (f k j : ℕ) → f < 2 ^ 52 → (2 ^ 52 + f) / (k * 2 ^ j) < 2 ^ 53
quotient_between_below f k j p =
    let small : (2 ^ 52 + f) / (k * 2 ^ j) ≤ 2 ^ 52 + f = div-le_self (2 ^ 52 + f) (k * 2 ^ j) in
    omega arith
