-- Convergents within a bound.
use Rattle.std.proofs.Common.{◌≡◌, ℕ, zero, suc, ◌+◌, ◌-◌, ◌^◌, ◌<◌, ◌≤◌, min, Bool, true, false, ◌&&◌, ◌==◌, nat_lt, if◌then◌else◌, List, [], ◌∷◌, Some, None, refl, sym, arith}
use Rattle.std.proofs.lemmas.Bool.Decides.{nat_tests}
use Rattle.std.proofs.Math.Nat.{pow-suc, one-le-pow}
use Rattle.std.proofs.Math.Path.{subst}
use Rattle.std.specs.Float.{Float, fract, binary64}
use Rattle.xls_shown_fractions.specs.declared.needs.Fraction.{Fraction}
use Rattle.xls_shown_fractions.specs.Ratios.{Mixed, size_of, quotients, next_of, fits, last_within, nearest_fraction, fraction_under, one_under, large_of, small_of, improper, proper, placed, ratio_of}

record Within (most : ℕ) (c : ℕ × ℕ) : Type 0 where
  numerator : c.0 ≤ most
  denominator : c.1 ≤ most

fits_within : (most p q : ℕ) → fits most (p, q) ≡ true → Within most (p, q)
fits_within most p q e = record { numerator = grind (arith, nat_tests, e); denominator = grind (arith, nat_tests, e) }

chosen : (most : ℕ) (b : Bool) (x y : ℕ × ℕ) → (b ≡ true → Within most x) → Within most y → Within most (if b then x else y)
chosen most true x y f g = f refl
chosen most false x y f g = g

within : (most : ℕ) (before last : ℕ × ℕ) (qs : List ℕ) → Within most last → Within most (last_within most before last qs)
within most before last [] h = h
within most before last (a ∷ qs) h =
    chosen most (fits most (next_of a last before)) _ _
    (λ e. within most last (next_of a last before) qs (fits_within most _ _ e)) h

ten_below : (n : ℕ) → 0 < n → 1 < 10 ^ n
ten_below zero p = absurd (omega arith)
ten_below (suc n) p = let some : 0 < 10 ^ n = one-le-pow n 10 (omega arith) in omega (arith, pow-suc 10 n)

pub nearest_within : (places : ℕ) (x : Float) → 0 < places → ((nearest_fraction places x).0 < 10 ^ min places 9) × ((nearest_fraction places x).1 < 10 ^ min places 9)
nearest_within places x p =
    let more : 1 < 10 ^ min places 9 = ten_below (min places 9) (omega arith) in
    let h = within (10 ^ min places 9 - 1) (1, 0) (0, 1) (quotients 45 x) (record { numerator = omega arith; denominator = omega arith }) in
    (omega (arith, h.numerator), omega (arith, h.denominator))

proper_denominator : (m : Mixed) → (proper m).denominator ≡ m.denominator
proper_denominator m = elim (nat_lt 0 m.numerator && (m.numerator == m.denominator)) as (λ b. (if b then record { whole = m.whole + 1; numerator = 0; denominator = m.denominator } else m).denominator ≡ m.denominator) [ true ↦ refl | false ↦ refl ]

placed_denominator : (f : Fraction) (m : Mixed) → (placed f m).denominator ≡ m.denominator
placed_denominator f m = elim (f.whole == 0) as (λ b. (if b then improper m else proper m).denominator ≡ m.denominator) [ true ↦ refl | false ↦ proper_denominator m ]

-- of a large number, or of a small one
pub either : (f : Fraction) (bits : ℕ) (b : Bool) (P : Mixed → Type 0) → P (large_of f bits) → P (small_of f (size_of bits))
    → P (if b then large_of f bits else small_of f (size_of bits))
either f bits true P large small = large
either f bits false P large small = small

ratio_denominator : (P : ℕ → Type 0) (f : Fraction) (bits : ℕ) → P (one_under f.fixed)
    → P (fraction_under f.fixed f.places (fract binary64 (size_of bits))).1 → P (ratio_of f bits).denominator
ratio_denominator P f bits large small =
    subst P (sym (placed_denominator f _)) (either f bits _ (λ m. P m.denominator) large small)

pub ratio_within : (f : Fraction) (bits : ℕ) → f.fixed ≡ None → 0 < f.places → (ratio_of f bits).denominator < 10 ^ min f.places 9
ratio_within f bits e p =
    ratio_denominator (λ d. d < 10 ^ min f.places 9) f bits
    (rw e (ten_below (min f.places 9) (omega arith)))
    (rw e ((nearest_within f.places (fract binary64 (size_of bits)) p).1))

pub ratio_fixed : (f : Fraction) (bits d : ℕ) → f.fixed ≡ Some d → (ratio_of f bits).denominator ≡ d
ratio_fixed f bits d e = ratio_denominator (λ n. n ≡ d) f bits (rw e) (rw e)
