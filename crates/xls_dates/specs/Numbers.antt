-- Numbers cut toward zero, and their printed texts as lists of ASCII codes.
use Rattle.std.specs.Prelude.{ℕ, ◌-◌, ◌/◌, ◌%◌, ◌^◌, ◌==◌, false, int_div, if◌then◌else◌, Option, Some, None, ℤ, pos, negsuc, unsigned_abs, List, [], ◌++◌, codes, replicate, length}
use Rattle.std.specs.Fmt.{decimal, signed_decimal, digits}
use Rattle.xls_bytes.specs.Doubles.{whole_of, trunc_of, trunc_checked_of}
use Rattle.xls_dates.specs.declared.numbers.Number.{Number}
use Rattle.xls_dates.specs.declared.numbers.Number.TheVariants.{Bits, Whole, Hundredths, BitsOver100}

-- n in lower-case hexadecimal, with zeros before it up to sixteen digits
unfoldable pub sixteen_digits : ℕ → List ℕ
sixteen_digits n = replicate (16 - length (digits 16 false n)) 48 ++ digits 16 false n

-- the sign of a negative number
abbrev pub minus_if_negative : ℤ → List ℕ
minus_if_negative (pos n) = []
minus_if_negative (negsuc n) = codes "-"

-- n hundredths below one: no decimals, one, or two
abbrev pub decimals_text : ℕ → List ℕ
decimals_text n =
    if n == 0 then []
    else (codes "." ++ (decimal (n / 10) ++ (if n % 10 == 0 then [] else decimal (n % 10))))

-- n over 100, exactly
abbrev pub hundredths_text : ℤ → List ℕ
hundredths_text n =
    minus_if_negative n ++ (decimal (unsigned_abs n / 100) ++ decimals_text (unsigned_abs n % 100))

-- a whole number in decimal, else the bits
abbrev pub whole_text : Option ℤ → ℕ → List ℕ
whole_text (Some n) bits = signed_decimal n
whole_text None bits = codes "0x" ++ sixteen_digits bits

-- the double with these bits: negative zero, a whole number below 2 ^ 53 in size, or the bits
abbrev pub bits_text : ℕ → List ℕ
bits_text bits = if bits == 2 ^ 63 then codes "-0" else whole_text (whole_of bits) bits

-- a whole number over 100, else the bits over 100
abbrev pub whole_over_100_text : Option ℤ → ℕ → List ℕ
whole_over_100_text (Some n) bits = hundredths_text n
whole_over_100_text None bits = (codes "0x" ++ sixteen_digits bits) ++ codes "/100"

-- the double with these bits, over 100
abbrev pub over_100_text : ℕ → List ℕ
over_100_text bits = if bits == 2 ^ 63 then codes "-0" else whole_over_100_text (whole_of bits) bits

-- what a number prints
abbrev pub number_text : Number → List ℕ
number_text (Bits bits) = bits_text bits
number_text (Whole n) = signed_decimal n
number_text (Hundredths n) = hundredths_text n
number_text (BitsOver100 bits) = over_100_text bits

-- a number cut toward zero, or the nearer end of i64, or 0 for what is no number
abbrev pub number_trunc : Number → ℤ
number_trunc (Bits bits) = trunc_of bits 1
number_trunc (Whole n) = n
number_trunc (Hundredths n) = int_div n (pos 100)
number_trunc (BitsOver100 bits) = trunc_of bits 100

-- a number cut toward zero, where it is finite and the cut number is in i64
abbrev pub number_trunc_checked : Number → Option ℤ
number_trunc_checked (Bits bits) = trunc_checked_of bits 1
number_trunc_checked (Whole n) = Some n
number_trunc_checked (Hundredths n) = Some (int_div n (pos 100))
number_trunc_checked (BitsOver100 bits) = trunc_checked_of bits 100
