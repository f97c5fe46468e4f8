-- A number's size under the code `General` (ECMA-376 part 1, 18.8.30; the number of digits is this project's
-- rule, after Excel), as ASCII codes: at most 11 characters, rounded from 15 digits.
use Rattle.std.specs.Prelude.{ℕ, Bool, ◌+◌, ◌-◌, ◌/◌, ◌^◌, ◌==◌, ◌&&◌, ◌||◌, not, nat_lt, if◌then◌else◌, ℤ, pos, negsuc, ◌+ℤ◌, ◌-ℤ◌, unsigned_abs, List, codes}
use Rattle.std.specs.Fmt.{decimal}
use Rattle.xls_rounding.specs.declared.decimals.Decimal.{Decimal}
use Rattle.xls_rounding.specs.Rounding.{rounded_at, magnitude_of}
use Rattle.xls_rounding.specs.FormulaNumbers.{without_zeros, with_point, scientific}
use Rattle.xls_shown_numbers.specs.Digits.{last_digits}

-- n / 10 ^ p, without zeros at the end of its decimals; the point goes with the last of them
abbrev pub fixed : ℕ → ℕ → List ℕ
fixed n p = with_point (decimal (n / 10 ^ p)) (without_zeros (last_digits p n))

-- digits with a power of ten: `1.2E+11`
abbrev pub with_power : List ℕ → ℤ → List ℕ
with_power ds (pos n) = scientific ds (codes "+") n
with_power ds (negsuc n) = scientific ds (codes "-") (n + 1)

-- decimals before an exponent: 5, or 4 for one of three digits
abbrev pub decimals_of : ℤ → ℕ
decimals_of k = if nat_lt (unsigned_abs k) 100 then 5 else 4

-- n / 10 ^ f * 10 ^ k, where n may have become 10 ^ (f + 1)
abbrev pub power_form : ℕ → ℕ → ℤ → List ℕ
power_form n f k = with_power (without_zeros (decimal n)) (if n == 10 ^ (f + 1) then k +ℤ pos 1 else k)

-- with an exponent, of a decimal whose first digit counts 10 ^ k
abbrev pub exponent_form : Decimal → ℤ → List ℕ
exponent_form d k = power_form (rounded_at d (pos (decimals_of k) -ℤ k)) (decimals_of k) k

-- with p decimals
abbrev pub fixed_form : Decimal → ℕ → List ℕ
fixed_form d p = fixed (rounded_at d (pos p)) p

-- rounded to nine decimals
abbrev pub ninths : Decimal → Decimal
ninths d = record { digits = rounded_at d (pos 9); exponent = negsuc 8 }

-- nine decimals aren't 0, and are the same number to six digits
abbrev pub is_exact_enough : Decimal → ℤ → Bool
is_exact_enough d k =
    not (rounded_at d (pos 9) == 0) && (rounded_at (ninths d) (pos 5 -ℤ k) == rounded_at d (pos 5 -ℤ k))

-- below 10 ^ 11 with up to nine decimals, ten digits in all or eleven before the point (where rounding
-- gives one more digit before the point, the decimals are zeros); from 10 ^ -4 on with nine decimals,
-- and below it where these are exact enough; else with an exponent
abbrev pub general_at : Decimal → ℤ → List ℕ
general_at d (pos k) =
    if nat_lt k 10 || ((k == 10) && not (rounded_at d (pos 0) == 10 ^ 11)) then fixed_form d (9 - k)
    else exponent_form d (pos k)
general_at d (negsuc k) =
    if nat_lt k 4 || is_exact_enough d (negsuc k) then fixed_form d 9 else exponent_form d (negsuc k)

abbrev pub general : Decimal → List ℕ
general d = if d.digits == 0 then codes "0" else general_at d (magnitude_of d)
