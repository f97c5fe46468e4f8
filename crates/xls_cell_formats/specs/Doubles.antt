-- Numbers as the bits of doubles (IEEE 754). A Number record has them as they stand; an RkNumber ([MS-XLS] 2.5.217) is a
-- whole number or a double, and may be divided by 100.
use Rattle.std.specs.Prelude.{ℕ, ℤ, not, ◌==◌, Bool, from_bits, to_bits}
use Rattle.std.specs.Float.{binary64}
use Rattle.std.specs.Float.Ieee.{div, of_int}
use Rattle.xls_bytes.specs.Doubles.{exponent_of}
use Rattle.xls_dates.specs.declared.numbers.Number.{Number}
use Rattle.xls_dates.specs.declared.numbers.Number.TheVariants.{Bits, Whole, Hundredths, BitsOver100}
use Rattle.xls_decimals.specs.Decimals.{over_100}

-- the double nearest to a whole number, of two as near the even one
abbrev pub whole_bits : ℤ → ℕ
whole_bits n = to_bits binary64 (of_int binary64 n)

-- that double over 100
abbrev pub hundredths_bits : ℤ → ℕ
hundredths_bits n = to_bits binary64 (div binary64 (of_int binary64 n) (from_bits binary64 0x4059_0000_0000_0000))

-- the double with these bits over 100
abbrev pub over_100_bits : ℕ → ℕ
over_100_bits bits = to_bits binary64 (over_100 bits)

-- the double that a number is
abbrev pub bits_of : Number → ℕ
bits_of (Bits bits) = bits
bits_of (Whole n) = whole_bits n
bits_of (Hundredths n) = hundredths_bits n
bits_of (BitsOver100 bits) = over_100_bits bits

-- bits of no infinity and no NaN
abbrev pub is_finite : ℕ → Bool
is_finite bits = not (exponent_of bits == 2047)
