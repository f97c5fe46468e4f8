-- Known values: doubles of numbers, and what contents are under codes.
use Rattle.std.proofs.Common.{◌≡◌, ℤ, Bool, refl, map, [], ◌∷◌, pos, negsuc, codes, true, false}
use Rattle.std.specs.Float.{float_with_sign, round_with}
use Rattle.std.specs.Float.Ieee.{of_bits, of_fields, odd, lt, le, eq, ne, sub, add, neg, sum, round, units, size, to_unsigned, of_int, to_bits}
use Rattle.xls_dates.specs.declared.numbers.Number.TheVariants.{Bits, Whole, Hundredths, BitsOver100}
use Rattle.xls_dates.specs.declared.dates.ExcelDateTimeType.TheVariants as kind
use Rattle.xls_data.specs.Content.{Content, int, float, text, truth, date, nothing}
use Rattle.xls_decimals.specs.Fractions.{nearest}
use Rattle.xls_cell_formats.specs.Doubles.{bits_of}
use Rattle.xls_cell_formats.specs.Numbers.{content_under}

-- 0.5 and 1 as a number record has them: a time, a duration, a number; whatever class they were given
pub known_contents : map (λ cs. content_under cs false (float (Bits 0x3ff0_0000_0000_0000))) (codes "h:mm" ∷ codes "[h]" ∷ codes "0.00" ∷ codes "0;d" ∷ [])
    ≡ date (record { number = Bits 0x3ff0_0000_0000_0000; kind = kind.DateTime; is_1904 = false })
    ∷ date (record { number = Bits 0x3ff0_0000_0000_0000; kind = kind.TimeDelta; is_1904 = false })
    ∷ float (Bits 0x3ff0_0000_0000_0000) ∷ float (Bits 0x3ff0_0000_0000_0000) ∷ []
unfolding of_bits of_fields odd lt le nearest
known_contents = refl

-- under the code of a date: the last day in each date system and the one after it, below 0, and what is no number
abbrev day : Bool → ℤ → Content
day is_1904 n = date (record { number = Whole n; kind = kind.DateTime; is_1904 = is_1904 })

pub known_days : map (λ (n : ℤ). content_under (codes "d") false (int n)) (pos 0 ∷ pos 2_958_465 ∷ pos 2_958_466 ∷ negsuc 0 ∷ [])
    ≡ day false (pos 0) ∷ day false (pos 2_958_465) ∷ int (pos 2_958_466) ∷ int (negsuc 0) ∷ []
unfolding to_bits of_bits of_fields odd lt le eq ne sub add neg sum round units size to_unsigned of_int round_with float_with_sign nearest
known_days = refl

pub known_days_of_1904 : map (λ (n : ℤ). content_under (codes "d") true (int n)) (pos 2_957_003 ∷ pos 2_957_004 ∷ negsuc 0 ∷ [])
    ≡ day true (pos 2_957_003) ∷ int (pos 2_957_004) ∷ int (negsuc 0) ∷ []
unfolding to_bits of_bits of_fields odd lt le eq ne sub add neg sum round units size to_unsigned of_int round_with float_with_sign nearest
known_days_of_1904 = refl

-- durations may be below 0, and have less than 2,958,466 days in either date system
pub known_spans : map (λ (n : ℤ). content_under (codes "[h]") true (int n)) (negsuc 0 ∷ pos 2_958_465 ∷ pos 2_958_466 ∷ [])
    ≡ date (record { number = Whole (negsuc 0); kind = kind.TimeDelta; is_1904 = true })
    ∷ date (record { number = Whole (pos 2_958_465); kind = kind.TimeDelta; is_1904 = true }) ∷ int (pos 2_958_466) ∷ []
unfolding to_bits of_bits of_fields odd lt le eq ne sub add neg sum round units size to_unsigned of_int round_with float_with_sign nearest
known_spans = refl

pub known_others : map (content_under (codes "h:mm") true) (text (codes "a") ∷ truth false ∷ nothing ∷ [])
    ≡ text (codes "a") ∷ truth false ∷ nothing ∷ []
known_others = refl

-- 0, 1, -2, 2 ^ 53 + 1; 2.5, 0.1 and -123.45 of hundredths; 0.01, -0 and infinity of a double over 100; what is no number
pub known_doubles : map bits_of ((Whole (pos 0)) ∷ (Whole (pos 1)) ∷ (Whole (negsuc 1))
    ∷ (Whole (pos 0x0020_0000_0000_0001)) ∷ (Hundredths (pos 250)) ∷ (Hundredths (pos 10))
    ∷ (Hundredths (negsuc 12344)) ∷ (BitsOver100 0x3ff0_0000_0000_0000)
    ∷ (BitsOver100 0x8000_0000_0000_0000) ∷ (BitsOver100 0x7ff0_0000_0000_0000)
    ∷ (Bits 0x7ff8_0000_0000_0001) ∷ [])
    ≡ 0x0000_0000_0000_0000 ∷ 0x3ff0_0000_0000_0000 ∷ 0xc000_0000_0000_0000
    ∷ 0x4340_0000_0000_0000 ∷ 0x4004_0000_0000_0000 ∷ 0x3fb9_9999_9999_999a
    ∷ 0xc05e_dccc_cccc_cccd ∷ 0x3f84_7ae1_47ae_147b ∷ 0x8000_0000_0000_0000
    ∷ 0x7ff0_0000_0000_0000 ∷ 0x7ff8_0000_0000_0001 ∷ []
unfolding lib.Ieee.to_bits lib.Ieee.of_int lib.Ieee.div lib.Ieee.of_bits
known_doubles = refl
