-- The text of a number in a formula, as Excel shows it, as a list of ASCII codes.
use Rattle.std.specs.Prelude.{ℕ, ◌+◌, ◌-◌, ◌==◌, ◌&&◌, nat_lt, nat_le, not, if◌then◌else◌, ℤ, pos, negsuc, ◌+ℤ◌, unsigned_abs, List, [], ◌∷◌, ◌++◌, length, take, drop, replicate, codes}
use Rattle.std.specs.Fmt.{decimal}
use Rattle.xls_bytes.specs.Doubles.{exponent_of, is_negative}
use Rattle.xls_rounding.specs.Rounding.{decimal_of, rounded, magnitude_of}
use Rattle.xls_rounding.specs.declared.decimals.Decimal.{Decimal}

-- a digit before digits without zeros at their end
abbrev pub before : ℕ → List ℕ → List ℕ
before d [] = if d == 48 then [] else d ∷ []
before d (e ∷ es) = d ∷ (e ∷ es)

-- digits without the zeros at their end
abbrev pub without_zeros : List ℕ → List ℕ
without_zeros [] = []
without_zeros (d ∷ ds) = before d (without_zeros ds)

abbrev pub zeros : ℕ → List ℕ
zeros n = replicate n 48

-- decimals behind a point; none without decimals
abbrev pub with_point : List ℕ → List ℕ → List ℕ
with_point whole [] = whole
with_point whole (d ∷ ds) = whole ++ (codes "." ++ d ∷ ds)

-- at least two digits
abbrev pub two_digits : ℕ → List ℕ
two_digits n = if nat_lt n 10 then codes "0" ++ decimal n else decimal n

-- `d.dddE+NN`: a point behind the first digit, and a power of ten with its sign
abbrev pub scientific : List ℕ → List ℕ → ℕ → List ℕ
scientific ds sign n = with_point (take 1 ds) (drop 1 ds) ++ (codes "E" ++ (sign ++ two_digits n))

-- digits of which the first counts 10 ^ e: up to 10 ^ 19 with zeros up to the point; below 1 with
-- zeros behind it, where that needs at most 20 characters; else with an exponent
abbrev pub digits_text : List ℕ → ℤ → List ℕ
digits_text ds (pos n) =
    if nat_lt 19 n then scientific ds (codes "+") n
    else with_point (take (n + 1) ds ++ zeros (n + 1 - length ds)) (drop (n + 1) ds)
digits_text ds (negsuc n) =
    if nat_le (n + 2 + length ds) 20 then codes "0." ++ (zeros n ++ ds)
    else scientific ds (codes "-") (n + 1)

-- a decimal that isn't 0
abbrev pub decimal_text : Decimal → List ℕ
decimal_text d = digits_text (without_zeros (decimal d.digits)) (magnitude_of d)

-- from 10 ^ 99 on and below 10 ^ -98, one of the 15 digits is rounded away
abbrev pub in_formula : Decimal → Decimal
in_formula d =
    if nat_lt 98 (unsigned_abs (magnitude_of d))
    then record { digits = rounded d.digits (negsuc 0); exponent = d.exponent +ℤ pos 1 }
    else d

-- a minus; none before infinities and what is no number
abbrev pub sign_of : ℕ → List ℕ
sign_of bits = if is_negative bits && not (exponent_of bits == 2047) then codes "-" else []

-- a double: zeros and subnormal numbers are 0; the exponent of infinities and of what is no number
-- counts as any other
abbrev pub formula_number : ℕ → List ℕ
formula_number bits =
    sign_of bits ++ (if exponent_of bits == 0 then codes "0" else decimal_text (in_formula (decimal_of bits)))
