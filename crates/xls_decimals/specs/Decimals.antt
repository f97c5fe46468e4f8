-- Numbers in decimal, as lists of ASCII codes.
use Rattle.std.specs.Prelude.{◌≡◌, ℕ, ◌+◌, ◌*◌, ◌^◌, ◌==◌, ◌&&◌, nat_lt, if◌then◌else◌, Option, Some, None, MatchOption, MatchBool, ℤ, List, ◌++◌, codes, from_bits, to_bits}
use Rattle.std.specs.Float.{binary64, float_is_finite}
use Rattle.std.specs.Float.Ieee.{Float, div}
use Rattle.std.specs.Fmt.{signed_decimal}
use Rattle.ryu.specs.Parse.{parse_float}
use Rattle.ryu.specs.Plain.{IsLaidOutNumber}
use Rattle.xls_bytes.specs.Doubles.{exponent_of, fraction_of, is_negative, signed, whole_of}
use Rattle.xls_dates.specs.Numbers.{sixteen_digits, hundredths_text}
use Rattle.xls_dates.specs.declared.numbers.Number.{Number}
use Rattle.xls_dates.specs.declared.numbers.Number.TheVariants.{Bits, Whole, Hundredths, BitsOver100}

-- a whole double from 2 ^ 53 to 10 ^ 16 in size: there it is twice 2 ^ 52 and its fraction field
abbrev pub large_whole_of : ℕ → Option ℤ
large_whole_of bits =
    if (exponent_of bits == 1076) && nat_lt (2 * (2 ^ 52 + fraction_of bits)) (10 ^ 16)
    then Some (signed (is_negative bits) (2 * (2 ^ 52 + fraction_of bits))) else None

-- the first of two that is there
abbrev pub first_of : Option ℤ → Option ℤ → Option ℤ
first_of None other = other
first_of (Some n) other = Some n

-- the whole number below 10 ^ 16 in size that a double is, where it is one
abbrev pub short_whole_of : ℕ → Option ℤ
short_whole_of bits = first_of (whole_of bits) (large_whole_of bits)

-- infinities and what is no number by their bits
abbrev pub decimal_of_bits : ℕ → List ℕ
decimal_of_bits bits = codes "0x" ++ sixteen_digits bits

abbrev pub whole_or_bits_text : Option ℤ → ℕ → Option (List ℕ)
whole_or_bits_text (Some n) bits = Some (signed_decimal n)
whole_or_bits_text None bits = if exponent_of bits == 2047 then Some (decimal_of_bits bits) else None

-- the doubles with one text: negative zero, whole numbers below 10 ^ 16 in size, infinities and
-- what is no number
abbrev pub fixed_text : ℕ → Option (List ℕ)
fixed_text bits =
    if bits == 2 ^ 63 then Some (codes "-0") else whole_or_bits_text (short_whole_of bits) bits

-- every other double: perhaps a minus, digits with a point between them or an exponent or both,
-- without zeros that add nothing, an exponent below 10 ^ -5 and from 10 ^ 16 on alone; read by
-- rounding to nearest, ties to even (IEEE 754), it is the double with these bits
pub record IsFraction (bits : ℕ) (text : List ℕ) : Type 0 where
  pub layout : IsLaidOutNumber 16 4 text
  pub reads_back : parse_float binary64 text ≡ Some (from_bits binary64 bits)

-- the decimal text of the double with these bits
abbrev pub IsDouble : ℕ → List ℕ → Type 0
IsDouble bits text = MatchOption (fixed_text bits) (IsFraction bits text) (λ fixed. text ≡ fixed)

-- the double with these bits over 100, by the division of IEEE 754
abbrev pub over_100 : ℕ → Float
over_100 bits = div binary64 (from_bits binary64 bits) (from_bits binary64 0x4059_0000_0000_0000)

-- the decimal text of the double with these bits over 100: of a whole number the exact hundredths,
-- else that of the quotient; infinities and what is no number by their bits
abbrev pub IsDoubleOver100 : ℕ → List ℕ → Type 0
IsDoubleOver100 bits text =
    MatchBool (bits == 2 ^ 63) (text ≡ codes "-0") (MatchOption (whole_of bits)
    (MatchBool (float_is_finite (over_100 bits))
    (IsDouble (to_bits binary64 (over_100 bits)) text)
    (text ≡ decimal_of_bits bits ++ codes "/100"))
    (λ n. text ≡ hundredths_text n))

-- the decimal text of a number
abbrev pub IsDecimal : Number → List ℕ → Type 0
IsDecimal (Bits bits) text = IsDouble bits text
IsDecimal (Whole n) text = text ≡ signed_decimal n
IsDecimal (Hundredths n) text = text ≡ hundredths_text n
IsDecimal (BitsOver100 bits) text = IsDoubleOver100 bits text
