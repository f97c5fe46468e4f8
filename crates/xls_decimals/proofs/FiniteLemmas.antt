-- Which bits are those of a finite double.
use Rattle.std.proofs.Common.{◌≡◌, ℕ, zero, suc, ◌+◌, ◌/◌, ◌%◌, ◌^◌, ◌<◌, Bool, true, false, refl, arith}
use Rattle.std.specs.Prelude.{from_bits, nat_eq, nat_le}
use Rattle.std.specs.Float.{binary64, float_is_finite}
use Rattle.std.specs.Float.Ieee.{div, of_bits, of_fields, odd}
use Rattle.std.proofs.lemmas.Bool.Decides.{nat_tests}
use Rattle.xls_bytes.specs.Doubles.{exponent_of}
use Rattle.xls_decimals.specs.Decimals.{over_100}

odd_finite : (d : ℕ) (s : Bool) (q k l : ℕ) → float_is_finite (odd d s q k l) ≡ true
unfolding odd float_is_finite
odd_finite d s zero k l = refl
odd_finite d s (suc q) k l = refl

fields_finite : (s : Bool) (x t : ℕ) → x < 2047 → float_is_finite (of_fields binary64 s x t) ≡ true
unfolding of_fields
fields_finite s zero t p = odd_finite 53 s t 0 1074
fields_finite s (suc x) t p =
    let other : nat_eq (suc x) 2047 ≡ false = grind (arith, nat_tests) in
    rw other (odd_finite 53 s (2 ^ 52 + t) x 1074)

pub finite_from_exponent : (bits : ℕ) → exponent_of bits < 2047 → float_is_finite (from_bits binary64 bits) ≡ true
unfolding of_bits
finite_from_exponent bits p = fields_finite (nat_le (2 ^ 63) bits) (bits % 2 ^ 63 / 2 ^ 52) (bits % 2 ^ 52) (omega
    (arith, p))

-- an infinity or what is no number over 100 isn't finite
fields_infinite : (s : Bool) (t : ℕ)
    → float_is_finite (div binary64 (of_fields binary64 s 2047 t) (from_bits binary64 0x4059_0000_0000_0000)) ≡ false
unfolding of_fields of_bits odd div float_is_finite
fields_infinite s zero = refl
fields_infinite s (suc t) =
    let some : nat_eq (suc t) 0 ≡ false = grind (arith, nat_tests) in
    rw some refl

pub infinite_over_100 : (bits : ℕ) → exponent_of bits ≡ 2047 → float_is_finite (over_100 bits) ≡ false
unfolding of_bits
infinite_over_100 bits p =
    let field : bits % 2 ^ 63 / 2 ^ 52 ≡ 2047 = omega (arith, p) in
    rw field (fields_infinite (nat_le (2 ^ 63) bits) (bits % 2 ^ 52))
