-- A finite double over 100 is finite.
use Rattle.std.proofs.Common.{◌≡◌, ℕ, zero, suc, ◌*◌, ◌%◌, ◌^◌, ◌<◌, ◌≤◌, Bool, true, false, refl, sym, subst, ◌∙◌, arith, ℤ, pos, inl, inr}
use Rattle.std.specs.Prelude.{◌&&◌, from_bits, to_bits, cond, T}
use Rattle.std.specs.Float.{binary64, float_is_finite}
use Rattle.std.specs.Float.Ieee.{Float, nan, inf, fin, div, round, units, odd, of_bits, of_fields, size, span, climb, fits, le, lt, eq, up, down}
use Rattle.std.proofs.lemmas.Bool.{cases_lt, true≢false, false≢true}
use lib.Ieee.Bits.{of_bits-to_bits, of_bits-fits}
use lib.Ieee.Fits.{div-fits, down_pos}
use lib.Ieee.Order.{round_mono}
use lib.Count.{count_trailing_zeros}
use lib.Dec.{eqb, leb, ltb, ltb→lt}
use Rattle.xls_bytes.specs.Doubles.{exponent_of}
use Rattle.xls_decimals.specs.Decimals.{over_100}
use Rattle.xls_decimals.proofs.FiniteLemmas.{finite_from_exponent, infinite_over_100}

abbrev hundred : ℕ
hundred = 0x4059_0000_0000_0000

hundred_is : from_bits binary64 hundred ≡ fin false 25 (pos 2)
unfolding of_bits of_fields odd count_trailing_zeros
hundred_is = refl

-- ---- rounding

odd_finite : (d : ℕ) (s : Bool) (q k l : ℕ) → float_is_finite (odd d s q k l) ≡ true
unfolding odd float_is_finite
odd_finite d s zero k l = refl
odd_finite d s (suc q) k l = refl

abbrev greatest : Float
greatest = fin false 1 (pos 1023)

greatest_is : round binary64 false (2 ^ 1023) 1 ≡ greatest
unfolding round units size span climb odd count_trailing_zeros
greatest_is = refl

by_test : (b s : Bool) (x y : Float) → float_is_finite x ≡ true → float_is_finite y ≡ true → T (le (cond b x (inf false)) greatest)
    → float_is_finite (cond b y (inf s)) ≡ true
unfolding le lt eq
by_test true s x y p q h = q
by_test false s x y p q h = absurd h

-- whatever the sign
units_finite : (s : Bool) (q k : ℕ) → T (le (units binary64 false q k) greatest) → float_is_finite (units binary64 s q k) ≡ true
unfolding units
units_finite s q k h = by_test _ s _ _ (odd_finite 54 false q k 1074) (odd_finite 54 s q k 1074) h

round_finite : (s : Bool) (num den : ℕ) → 0 < den → num * 1 ≤ 2 ^ 1023 * den → float_is_finite (round binary64 s num den) ≡ true
unfolding round
round_finite s num den some small =
    units_finite s _ _ (subst (λ x. T (le (round binary64 false num den) x)) greatest_is (round_mono binary64 num den (2 ^ 1023) 1 some (omega arith) small))

-- ---- the quotient

last_of : (a b c d : Bool) → T (a && b && c && d) → T d
last_of false b c d h = absurd h
last_of true false c d h = absurd h
last_of true true false d h = absurd h
last_of true true true d h = h

below_size : (s : Bool) (m : ℕ) (e : ℤ) → T (fits binary64 (fin s m e)) → m * up e ≤ 2 ^ 1024 * down e
unfolding fits
below_size s zero e h = omega arith
below_size s (suc m) e h =
    let last = last_of (eqb (suc m % 2) 1) (ltb (suc m) (2 ^ 53)) (leb (down e) (2 ^ 1074)) (ltb (suc m * up e) (2 ^ 1024 * down e)) h in
    let size : suc m * up e < 2 ^ 1024 * down e = ltb→lt (suc m * up e) (2 ^ 1024 * down e) last in
    omega (arith, size)

over_hundred : (x : Float) → T (fits binary64 x) → float_is_finite x ≡ true → float_is_finite (div binary64 x (fin false 25 (pos 2))) ≡ true
unfolding div float_is_finite
over_hundred nan f h = absurd (false≢true h)
over_hundred (inf s) f h = absurd (false≢true h)
over_hundred (fin s m e) f h =
    let size = below_size s m e f in
    round_finite _ (m * up e * 1) (100 * down e) (omega (arith, down_pos e)) (omega (arith, size))

quotient_finite : (x : Float) → T (fits binary64 x) → float_is_finite x ≡ true → float_is_finite (div binary64 x (from_bits binary64 hundred)) ≡ true
quotient_finite x f h = subst (λ y. float_is_finite (div binary64 x y) ≡ true) (sym hundred_is) (over_hundred x f h)

pub finite_over_100 : (bits : ℕ) → exponent_of bits < 2047 → float_is_finite (over_100 bits) ≡ true
finite_over_100 bits finite = quotient_finite (from_bits binary64 bits) (of_bits-fits binary64 bits) (finite_from_exponent bits finite)

-- the bits of a finite double
finite_bits : (x : Float) → T (fits binary64 x) → float_is_finite x ≡ true → exponent_of (to_bits binary64 x) < 2047
finite_bits x f h = elim (cases_lt (exponent_of (to_bits binary64 x)) 2047) [
  | inl finite ↦ finite
  | inr high ↦
      let none = infinite_over_100 (to_bits binary64 x) (omega (arith, high)) in
      let back = subst (λ y. float_is_finite (div binary64 y (from_bits binary64 hundred)) ≡ true) (sym (of_bits-to_bits binary64 x f)) (quotient_finite x f h) in
      absurd (true≢false (sym back ∙ none))
]

pub finite_quotient_bits : (bits : ℕ) → exponent_of bits < 2047 → exponent_of (to_bits binary64 (over_100 bits)) < 2047
finite_quotient_bits bits finite = finite_bits (over_100 bits) (div-fits binary64 _ _) (finite_over_100 bits finite)
