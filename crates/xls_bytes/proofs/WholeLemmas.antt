use Rattle.std.proofs.Common.{◌≡◌, ℕ, zero, suc, ◌*◌, ◌/◌, ◌%◌, ◌^◌, ◌<◌, Some, None, Option, refl, arith, ◌∙◌, sym, ap, Bool, true, false, ℤ, pos, negsuc, neg_ℤ, ◌*ℤ◌, unsigned_abs, inl, inr}
use Rattle.std.specs.Prelude.{◌↔◌}
use Rattle.std.proofs.lemmas.Int.{unsigned_abs-mul}
use Rattle.std.proofs.lemmas.Bool.{lt-ltb, le-ltb, cases_lt, cases_eq, eq-eqb, ne_eqb}
use Rattle.std.proofs.lemmas.Option.{none-some}
use Rattle.std.proofs.lemmas.Nat.{pow_pos, div-mul-add, div-add-mod', mod-mul-add}
use Rattle.std.proofs.Math.Nat.{zero-mul, add-zero}
use Rattle.xls_bytes.proofs.SizeLemmas.{size_finite, size_none_infinite}
use Rattle.xls_bytes.specs.Doubles.{whole_of, size_of_parts, whole_size, with_sign, signed, is_negative, mantissa_of, up_of, down_of, exponent_of, fraction_of, IsWhole}

pub signed_mul : (s : Bool) (m a : ℕ) → signed s m *ℤ pos a ≡ signed s (m * a)
signed_mul true zero a = rw (zero-mul a)
signed_mul true (suc m) a = refl
signed_mul false m a = refl

pub unsigned_abs-signed : (s : Bool) (m : ℕ) → unsigned_abs (signed s m) ≡ m
unsigned_abs-signed true zero = refl
unsigned_abs-signed true (suc m) = refl
unsigned_abs-signed false m = refl

pub not_negative : (m k : ℕ) → 0 < k → pos m ≡ neg_ℤ (pos k) → ⊥
not_negative m zero p e = absurd (omega arith)
not_negative m (suc k) p e = cc

-- two products by positive numbers have the sign of the first factor
pub signed-unsigned_abs : (s : Bool) (m b : ℕ) (n : ℤ) → 0 < b → signed s m ≡ n *ℤ pos b → signed s (unsigned_abs n) ≡ n
signed-unsigned_abs true m b (pos zero) p e = refl
signed-unsigned_abs true zero b (pos (suc j)) p e = absurd (omega (arith, ap unsigned_abs e))
signed-unsigned_abs true (suc m) b (pos (suc j)) p e = cc
signed-unsigned_abs true m b (negsuc j) p e = refl
signed-unsigned_abs false m b (pos j) p e = refl
signed-unsigned_abs false m b (negsuc j) p e = absurd (not_negative m (suc j * b) (omega arith) e)

-- m * 2 ^ up over 2 ^ down
pub whole_size_from : (m up down k : ℕ) → m * 2 ^ up ≡ k * 2 ^ down → k < 2 ^ 53 → whole_size m up down ≡ Some k
whole_size_from m up down k e p =
    let none : k * 2 ^ down % 2 ^ down ≡ 0 = rw (← add-zero (k * 2 ^ down)) (mod-mul-add k (2 ^ down) 0 (pow_pos down)) in
    let all : k * 2 ^ down / 2 ^ down ≡ k = rw (← add-zero (k * 2 ^ down)) (div-mul-add k (2 ^ down) 0 (pow_pos down)) in
    rw (e, none, all, lt-ltb k (2 ^ 53) p)

pub whole_size_some : (m up down k : ℕ) → whole_size m up down ≡ Some k → (m * 2 ^ up ≡ k * 2 ^ down) × (k < 2 ^ 53)
whole_size_some m up down k e =
    elim (cases_eq (m * 2 ^ up % 2 ^ down) 0) [
      | inr left ↦ absurd (none-some k (rw (ne_eqb _ _ left) at e))
      | inl none ↦ elim (cases_lt (m * 2 ^ up / 2 ^ down) (2 ^ 53)) [
        | inr far ↦ absurd (none-some k (rw (eq-eqb _ _ none, le-ltb _ _ far) at e))
        | inl near ↦
            let same : m * 2 ^ up / 2 ^ down ≡ k = cc (rw (eq-eqb _ _ none, lt-ltb _ _ near) at e) in
            let whole = div-add-mod' (m * 2 ^ up) (2 ^ down) in
            (sym (rw (same, none, add-zero) at whole), omega (arith, same))
      ]
    ]

pub size_some : (e f k : ℕ) → size_of_parts e f ≡ Some k → (e < 2047) × (mantissa_of e f * 2 ^ up_of e ≡ k * 2 ^ down_of e) × (k < 2 ^ 53)
size_some e f k h = elim (cases_lt e 2047) [
  | inr infinite ↦ absurd (none-some k (sym (size_none_infinite e f infinite) ∙ h))
  | inl finite ↦
      let parts = whole_size_some (mantissa_of e f) (up_of e) (down_of e) k (sym (size_finite e f _ _ _ finite refl refl refl) ∙ h) in
      (finite, parts.0, parts.1)
]

pub with_sign_some : (s : Bool) (o : Option ℕ) (n : ℤ) → with_sign s o ≡ Some n → (k : ℕ) × (o ≡ Some k) × (signed s k ≡ n)
with_sign_some s None n e = absurd (none-some n e)
with_sign_some s (Some k) n e = (k, refl, cc e)

-- what is computed is the whole number by its equation
pub whole_of_is : (bits : ℕ) (n : ℤ) → (whole_of bits ≡ Some n) ↔ (IsWhole bits n × (unsigned_abs n < 2 ^ 53))
whole_of_is bits n =
    let s = is_negative bits in
    let e = exponent_of bits in
    let m = mantissa_of e (fraction_of bits) in
    let b = 2 ^ down_of e in (
      λ h.
          let (k, found, sign) = with_sign_some s (size_of_parts e (fraction_of bits)) n h in
          let parts = size_some e (fraction_of bits) k found in
          (record { finite = parts.0; equal = rw (← sign) (signed_mul s m (2 ^ up_of e) ∙ ap (λ x. signed s x) parts.1 ∙ sym (signed_mul s k b)) }, rw (← sign, unsigned_abs-signed) parts.2),
      λ h.
          let equal = sym (signed_mul s m (2 ^ up_of e)) ∙ h.0.equal in
          let k = unsigned_abs n in
          let size : m * 2 ^ up_of e ≡ k * b = sym (unsigned_abs-signed s (m * 2 ^ up_of e)) ∙ ap unsigned_abs equal ∙ unsigned_abs-mul n (pos b) in
          let found = size_finite e (fraction_of bits) m (up_of e) (down_of e) h.0.finite refl refl refl ∙ whole_size_from m (up_of e) (down_of e) k size h.1 in
          rw found (ap (λ x. Some x) (signed-unsigned_abs s (m * 2 ^ up_of e) b n (pow_pos (down_of e)) equal)),
    )
