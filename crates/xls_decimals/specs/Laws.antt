-- Laws of the texts.
use Rattle.std.specs.Prelude.{◌≡◌, ◌≢◌, ℕ, ◌+◌, ◌*◌, ◌<◌, Bool, Some}
use Rattle.xls_dates.specs.declared.numbers.Number.{Number}
use Rattle.xls_decimals.specs.Fractions.{Fraction, value_of, day}
use Rattle.xls_decimals.specs.Texts.{moment_text}
use Rattle.xls_decimals.specs.Moments.{moment_of}

-- x is more than a millisecond later than y: x in milliseconds is above y in milliseconds and one
abbrev pub IsLater : Fraction → Fraction → Type 0
IsLater x y = (y.numerator * day + y.denominator) * x.denominator < x.numerator * day * y.denominator

-- dates of one system, both in range, that are more than a millisecond apart have different texts
abbrev pub DatesDiffer : Type 0
DatesDiffer = (is_1904 : Bool) (m n : Number) (x y : Fraction) (p q : ℕ)
    → value_of m ≡ Some x → value_of n ≡ Some y → IsLater x y
    → moment_of is_1904 m ≡ Some p → moment_of is_1904 n ≡ Some q
    → moment_text is_1904 p ≢ moment_text is_1904 q
