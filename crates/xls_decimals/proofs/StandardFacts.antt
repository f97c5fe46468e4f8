-- Values that IEEE 754, the calendar and Excel give, so that a wrong rule in the specs does not
-- check.
use Rattle.std.proofs.Common.{◌≡◌, ℕ, ◌∷◌, [], map, Bool, true, false, Some, None, refl, pos, negsuc, lit<}
use Rattle.std.specs.Prelude.{codes, from_bits}
use Rattle.std.specs.Fmt.{digits}
use Rattle.std.specs.Float.{binary64}
use Rattle.std.specs.Float.Ieee.{round, units, odd, of_bits, of_fields}
use Rattle.ryu.specs.Parse.{parse_float, read_float}
use Rattle.std.specs.Float.Numeral.{scan_numeral}
use Rattle.xls_bytes.specs.Doubles.{size_of_parts}
use Rattle.xls_dates.specs.Numbers.{sixteen_digits}
use Rattle.xls_dates.specs.declared.numbers.Number.TheVariants.{Bits, Whole, Hundredths, BitsOver100}
use Rattle.xls_lines.specs.Days.{days_after}
use Rattle.xls_decimals.specs.Decimals.{fixed_text}
use Rattle.xls_decimals.specs.Fractions.{nearest}
use Rattle.xls_decimals.specs.Texts.{clock_text, moment_text, time_after_day, duration_text}
use Rattle.xls_decimals.specs.Moments.{moment_of, span_of}

-- ---- doubles with one text

-- 0, -0, -7, 10 ^ 15, 2 ^ 53 - 1, 2 ^ 53, 2 ^ 53 + 2, the last below 10 ^ 16 and its negative
pub known_wholes : map fixed_text (0x0000_0000_0000_0000 ∷ 0x8000_0000_0000_0000 ∷ 0xc01c_0000_0000_0000
    ∷ 0x430c_6bf5_2634_0000 ∷ 0x433f_ffff_ffff_ffff ∷ 0x4340_0000_0000_0000 ∷ 0x4340_0000_0000_0001
    ∷ 0x4341_c379_37e0_7fff ∷ 0xc341_c379_37e0_7fff ∷ [])
    ≡ Some (codes "0") ∷ Some (codes "-0") ∷ Some (codes "-7")
    ∷ Some (codes "1000000000000000") ∷ Some (codes "9007199254740991") ∷ Some (codes "9007199254740992") ∷ Some
    (codes "9007199254740994")
    ∷ Some (codes "9999999999999998") ∷ Some (codes "-9999999999999998") ∷ []
unfolding digits size_of_parts
known_wholes = refl

-- infinities and what is no number
pub known_infinities : map fixed_text (0x7ff0_0000_0000_0000 ∷ 0xfff0_0000_0000_0000 ∷ 0x7ff8_0000_0000_0000
    ∷ 0xfff8_0000_0000_0001 ∷ [])
    ≡ Some (codes "0x7ff0000000000000") ∷ Some (codes "0xfff0000000000000") ∷ Some (codes "0x7ff8000000000000")
    ∷ Some (codes "0xfff8000000000001") ∷ []
unfolding digits sixteen_digits size_of_parts
known_infinities = refl

-- 10 ^ 16, 0.1, a third, 1.5, 10 ^ -5, 9.9e-6, the least subnormal and the greatest double are
-- written so that they read back
pub known_others : map fixed_text (0x4341_c379_37e0_8000 ∷ 0x3fb9_9999_9999_999a ∷ 0x3fd5_5555_5555_5555
    ∷ 0x3ff8_0000_0000_0000
    ∷ 0x3ee4_f8b5_88e3_68f1 ∷ 0x3ee4_c305_a3ad_ef92 ∷ 0x0000_0000_0000_0001 ∷ 0x7fef_ffff_ffff_ffff ∷ [])
    ≡ None ∷ None ∷ None ∷ None ∷ None ∷ None ∷ None ∷ None ∷ []
unfolding size_of_parts
known_others = refl

-- ---- milliseconds

-- ties go to the even one: 1/2, 3/2, 5/2; 2/3 and 4/3; 0
pub known_nearest : (nearest 1 2 ≡ 0) × (nearest 3 2 ≡ 2) × (nearest 5 2 ≡ 2) × (nearest 2 3 ≡ 1) × (nearest 4 3
    ≡ 1) × (nearest 0 7 ≡ 0)
unfolding nearest
known_nearest = (refl, refl, refl, refl, refl, refl)

-- 1 / 2048 and 3 / 2048 of a day lie between two milliseconds, 42187.5 and 126562.5
pub known_ties : map (moment_of false) (Bits 0x3f40_0000_0000_0000 ∷ Bits 0x3f58_0000_0000_0000 ∷ [])
    ≡ Some 42_188 ∷ Some 126_562 ∷ []
unfolding nearest
known_ties = refl

-- days 0, -0, 1, 59, 60, 61, 366, 2958465, the next and -1 in the 1900 system
pub known_moments : map (moment_of false) (Bits 0x0000_0000_0000_0000 ∷ Bits 0x8000_0000_0000_0000
    ∷ Bits 0x3ff0_0000_0000_0000
    ∷ Whole (pos 59) ∷ Whole (pos 60) ∷ Whole (pos 61) ∷ Whole (pos 366) ∷ Whole (pos 2_958_465) ∷ Whole
    (pos 2_958_466) ∷ Whole (negsuc 0) ∷ [])
    ≡ Some 0 ∷ Some 0 ∷ Some 86_400_000
    ∷ Some 5_097_600_000 ∷ Some 5_184_000_000 ∷ Some 5_270_400_000 ∷ Some 31_622_400_000
    ∷ Some 255_611_376_000_000 ∷ None ∷ None ∷ []
unfolding nearest
known_moments = refl

-- days 0, 1, 2957003 and the next in the 1904 system
pub known_moments_1904 : map (moment_of true) (Whole (pos 0) ∷ Whole (pos 1) ∷ Whole (pos 2_957_003) ∷ Whole
    (pos 2_957_004) ∷ [])
    ≡ Some 0 ∷ Some 86_400_000 ∷ Some 255_485_059_200_000 ∷ None ∷ []
unfolding nearest
known_moments_1904 = refl

-- the double before 1 rounds up to day 1, the one before 2958466 to a day that is out of range; a
-- subnormal is midnight, its negative is below zero; half a day in hundredths; 150 over 100; infinity
pub known_rounded : map (moment_of false) (Bits 0x3fef_ffff_ffff_ffff ∷ Bits 0x4146_9241_0000_0000
    ∷ Bits 0x4146_9240_ffff_ffff ∷ Bits 0x0000_0000_0000_0001
    ∷ Bits 0x8000_0000_0000_0001 ∷ Hundredths (pos 50) ∷ BitsOver100 0x4062_c000_0000_0000 ∷ Bits 0x7ff0_0000_0000_0000 ∷ [])
    ≡ Some 86_400_000 ∷ None ∷ None ∷ Some 0 ∷ None ∷ Some 43_200_000 ∷ Some 129_600_000 ∷ None ∷ []
unfolding nearest
known_rounded = refl

-- durations: 1.25 days, -1 / 2048, -0, 2958465 days and one more
pub known_spans : map span_of (Bits 0x3ff4_0000_0000_0000 ∷ Bits 0xbf40_0000_0000_0000 ∷ Bits 0x8000_0000_0000_0000
    ∷ Whole (negsuc 2_958_464) ∷ Whole (negsuc 2_958_465) ∷ [])
    ≡ Some (false, 108_000_000) ∷ Some (true, 42_188) ∷ Some (true, 0) ∷ Some (true, 255_611_376_000_000) ∷ None ∷ []
unfolding nearest
known_spans = refl

-- ---- texts

pub known_clocks : map clock_text (0 ∷ 49_530_250 ∷ 3_661_000 ∷ 1 ∷ 20 ∷ 300 ∷ 86_399_999 ∷ [])
    ≡ codes "00:00:00" ∷ codes "13:45:30.25" ∷ codes "01:01:01" ∷ codes "00:00:00.001" ∷ codes "00:00:00.02"
    ∷ codes "00:00:00.3" ∷ codes "23:59:59.999" ∷ []
known_clocks = refl

pub known_times : map time_after_day (0 ∷ 49_530_250 ∷ []) ≡ [] ∷ codes "T13:45:30.25" ∷ []
known_times = refl

-- below one day, at midnight of day 60 and after it
pub known_moment_texts : map (moment_text false) (49_530_250 ∷ 5_184_000_000 ∷ 5_319_930_250 ∷ [])
    ≡ codes "13:45:30.25" ∷ codes "1900-02-29" ∷ codes "1900-03-01T13:45:30.25" ∷ []
unfolding days_after
known_moment_texts = refl

pub known_durations : (duration_text false 108_000_000 ≡ codes "30:00:00") × (duration_text true 5_400_500
    ≡ codes "-1:30:00.5")
    × (duration_text true 0 ≡ codes "0:00:00") × (duration_text false 3_661_001 ≡ codes "1:01:01.001") ×
    (duration_text false 360_000_000 ≡ codes "100:00:00")
unfolding digits
known_durations = (refl, refl, refl, refl, refl)

-- ---- texts that read back

-- the greatest double, the least subnormal, 0.1, a third, 10 ^ 16 and 10 ^ -5
pub known_read_back : map (parse_float binary64) (codes "1.5" ∷ codes "0.1" ∷ codes "0.3333333333333333"
    ∷ codes "1e16" ∷ codes "0.00001" ∷ codes "9.9e-6" ∷ [])
    ≡ map (λ (b : ℕ). Some (from_bits binary64 b)) (0x3ff8_0000_0000_0000 ∷ 0x3fb9_9999_9999_999a
    ∷ 0x3fd5_5555_5555_5555 ∷ 0x4341_c379_37e0_8000 ∷ 0x3ee4_f8b5_88e3_68f1 ∷ 0x3ee4_c305_a3ad_ef92 ∷ [])
unfolding read_float round units odd of_bits of_fields scan_numeral
known_read_back = refl
