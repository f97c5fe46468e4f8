-- Values that IEEE 754 and Excel give, so that a wrong rule in the specs does not check.
use Rattle.std.proofs.Common.{◌≡◌, ℕ, ◌∷◌, [], map, refl, pos, negsuc}
use Rattle.std.specs.Prelude.{ℤ, codes}
use Rattle.std.specs.Fmt.{digits}
use Rattle.xls_rounding.specs.Fractions.{places_up_to, places, magnitude}
use Rattle.xls_rounding.specs.Rounding.{of_15_digits, decimal_of, rounded_at, magnitude_of}
use Rattle.xls_rounding.specs.FormulaNumbers.{formula_number}
use Rattle.xls_rounding.specs.declared.decimals.Decimal.{Decimal}

abbrev decimal : ℕ → ℤ → Decimal
decimal q e = record { digits = q; exponent = e }

-- ---- doubles

-- 1.005 and its negative, 0.125, the last below 0.5, 10 ^ 15 - 1, 10 ^ 22, 2 ^ -20; 1, 0.1;
-- 12345678901234567890, 2 ^ 53 - 1
pub known_decimals : map decimal_of (0x3FF0_147A_E147_AE14 ∷ 0xBFF0_147A_E147_AE14 ∷ 0x3FC0_0000_0000_0000
    ∷ 0x3FDF_FFFF_FFFF_FFFF ∷ 0x430C_6BF5_2633_FFF8 ∷ 0x4480_F0CF_064D_D592 ∷ 0x3EB0_0000_0000_0000
    ∷ 0x3FF0_0000_0000_0000 ∷ 0x3FB9_9999_9999_999A ∷ 0x43E5_6A95_319D_63E1 ∷ 0x433F_FFFF_FFFF_FFFF ∷ [])
    ≡ decimal 100_500_000_000_000 (negsuc 13) ∷ decimal 100_500_000_000_000 (negsuc 13) ∷ decimal 125_000_000_000_000 (negsuc 14)
    ∷ decimal 500_000_000_000_000 (negsuc 14) ∷ decimal 999_999_999_999_999 (pos 0) ∷ decimal 100_000_000_000_000 (pos 8)
    ∷ decimal 953_674_316_406_250 (negsuc 20) ∷ decimal 100_000_000_000_000 (negsuc 13) ∷ decimal 100_000_000_000_000 (negsuc 14)
    ∷ decimal 123_456_789_012_346 (pos 5) ∷ decimal 900_719_925_474_099 (pos 1) ∷ []
unfolding decimal_of of_15_digits magnitude places places_up_to
known_decimals = refl

-- the tie 10 ^ 15 + 5, 10 ^ 15 + 4, the tie 123456789012345.5; digits that become 10 ^ 15: the last
-- below 10, 10 ^ -98
pub known_roundings : map decimal_of (0x430C_6BF5_2634_0028 ∷ 0x430C_6BF5_2634_0020 ∷ 0x42DC_1221_8377_DE60
    ∷ 0x4023_FFFF_FFFF_FFFF ∷ 0x2B95_DF5C_A28E_F40D ∷ [])
    ≡ decimal 100_000_000_000_001 (pos 1) ∷ decimal 100_000_000_000_000 (pos 1) ∷ decimal 123_456_789_012_346 (pos 0)
    ∷ decimal 1_000_000_000_000_000 (negsuc 13) ∷ decimal 1_000_000_000_000_000 (negsuc 112) ∷ []
unfolding decimal_of of_15_digits magnitude places places_up_to
known_roundings = refl

-- the least normal number, the greatest, an infinity, what is no number; 0, -0, the last subnormal
-- number
pub known_extremes : map decimal_of (0x0010_0000_0000_0000 ∷ 0x7FEF_FFFF_FFFF_FFFF ∷ 0x7FF0_0000_0000_0000 ∷ 0xFFF8_0000_0000_0000
    ∷ 0x0000_0000_0000_0000 ∷ 0x8000_0000_0000_0000 ∷ 0x000F_FFFF_FFFF_FFFF ∷ [])
    ≡ decimal 222_507_385_850_720 (negsuc 321) ∷ decimal 179_769_313_486_232 (pos 294) ∷ decimal 179_769_313_486_232 (pos 294)
    ∷ decimal 269_653_970_229_347 (pos 294) ∷ decimal 0 (pos 0) ∷ decimal 0 (pos 0) ∷ decimal 0 (pos 0) ∷ []
unfolding decimal_of of_15_digits magnitude places places_up_to
known_extremes = refl

-- ---- places

-- 1.005 and 0.125 at two places, -0.001 at two; 0.5 and 0.49 at none; 1.4, 1.5, 2.5 at none; 1234.5
-- and 1235 at tens; 12300 at none, 123 at hundredths; far below a place, and 0
pub known_places : map (λ (d : Decimal × ℤ). rounded_at d.0 d.1)
    ((decimal 100_500_000_000_000 (negsuc 13), pos 2) ∷ (decimal 125 (negsuc 2), pos 2) ∷ (decimal 1 (negsuc 2), pos 2)
    ∷ (decimal 5 (negsuc 0), pos 0) ∷ (decimal 49 (negsuc 1), pos 0)
    ∷ (decimal 14 (negsuc 0), pos 0) ∷ (decimal 15 (negsuc 0), pos 0) ∷ (decimal 25 (negsuc 0), pos 0)
    ∷ (decimal 12_345 (negsuc 0), negsuc 0) ∷ (decimal 1_235 (pos 0), negsuc 0)
    ∷ (decimal 123 (pos 2), pos 0) ∷ (decimal 123 (pos 0), pos 2) ∷ (decimal 999 (negsuc 399), pos 2) ∷ (decimal 0 (pos 300), pos 2) ∷ [])
    ≡ 101 ∷ 13 ∷ 0 ∷ 1 ∷ 0 ∷ 1 ∷ 2 ∷ 3 ∷ 123 ∷ 124 ∷ 12_300 ∷ 12_300 ∷ 0 ∷ 0 ∷ []
known_places = refl

-- 1, 9.99, 10, 0.999, 10 ^ 15 * 10 ^ -14, 2.22507385850720 * 10 ^ -308
pub known_magnitudes : map magnitude_of (decimal 1 (pos 0) ∷ decimal 999 (negsuc 1) ∷ decimal 10 (pos 0) ∷ decimal 999 (negsuc 2)
    ∷ decimal 1_000_000_000_000_000 (negsuc 13) ∷ decimal 222_507_385_850_720 (negsuc 321) ∷ [])
    ≡ pos 0 ∷ pos 0 ∷ pos 1 ∷ negsuc 0 ∷ pos 1 ∷ negsuc 307 ∷ []
unfolding places places_up_to
known_magnitudes = refl

-- ---- numbers in formulas

-- 1.0001, 123.456789012346; below 1 in 21 characters and in 15; 20 digits before the point and 21;
-- beyond 10 ^ 99 in 14 digits; 20 characters and 21; the greatest; what is no number
pub known_texts : map formula_number (0x3FF0_0068_DB8B_AC71 ∷ 0x405E_DD3C_07FB_4C99 ∷ 0x3EE9_E409_3026_78BA ∷ 0x3EE9_E409_301B_5A02
    ∷ 0x43E5_6A95_319D_63E1 ∷ 0x441A_C53A_7E04_BCDA ∷ 0x5482_0FE0_BA17_F46D ∷ 0x3C32_725D_D1D2_43AB ∷ 0x3BFD_83C9_4FB6_D2AB
    ∷ 0x7FEF_FFFF_FFFF_FFFF ∷ 0x7FF8_0000_0000_0000 ∷ [])
    ≡ codes "1.0001" ∷ codes "123.456789012346" ∷ codes "1.23456789012346E-05" ∷ codes "0.0000123456789" ∷ codes "12345678901234600000"
    ∷ codes "1.23456789012346E+20" ∷ codes "1.2345678901235E+99" ∷ codes "0.000000000000000001" ∷ codes "1E-19"
    ∷ codes "1.7976931348623E+308" ∷ codes "2.6965397022935E+308" ∷ []
unfolding decimal_of of_15_digits magnitude places places_up_to digits
known_texts = refl

-- 0, -0, a subnormal number; -1.5, 0.1, 100, -0.001; 123456789012345 and 1234567890123456; infinities
pub known_short_texts : map formula_number (0x0000_0000_0000_0000 ∷ 0x8000_0000_0000_0000 ∷ 0x000F_FFFF_FFFF_FFFF
    ∷ 0xBFF8_0000_0000_0000 ∷ 0x3FB9_9999_9999_999A ∷ 0x4059_0000_0000_0000 ∷ 0xBF50_624D_D2F1_A9FC
    ∷ 0x42DC_1221_8377_DE40 ∷ 0x4311_8B54_F22A_EB00 ∷ 0x7FF0_0000_0000_0000 ∷ 0xFFF0_0000_0000_0000 ∷ [])
    ≡ codes "0" ∷ codes "-0" ∷ codes "0" ∷ codes "-1.5" ∷ codes "0.1" ∷ codes "100" ∷ codes "-0.001"
    ∷ codes "123456789012345" ∷ codes "1234567890123460" ∷ codes "1.7976931348623E+308" ∷ codes "1.7976931348623E+308" ∷ []
unfolding decimal_of of_15_digits magnitude places places_up_to digits
known_short_texts = refl

-- 10 ^ 19 and 10 ^ 20; 99999999999999900000; below 1 in 19 and 20 characters, 15 digits; -2E-50
pub known_forms : map formula_number (0x43E1_58E4_6091_3D00 ∷ 0x4415_AF1D_78B5_8C40 ∷ 0x4415_AF1D_78B5_8C3A
    ∷ 0x3F20_2E85_BE18_0AA3 ∷ 0x3EE9_E409_3026_776B ∷ 0x3F20_2E85_BE18_0B80 ∷ 0xB59D_EE7A_4AD4_B81F ∷ [])
    ≡ codes "10000000000000000000" ∷ codes "1E+20" ∷ codes "99999999999999900000"
    ∷ codes "0.00012345678901234" ∷ codes "0.000012345678901234" ∷ codes "0.000123456789012346" ∷ codes "-2E-50" ∷ []
unfolding decimal_of of_15_digits magnitude places places_up_to digits
known_forms = refl

-- 10 ^ 98, 10 ^ 99, 10 ^ -98 and 10 ^ -99: 15 digits and 14; what becomes a power of ten by the
-- first rounding, and by the second
pub known_borders : map formula_number (0x544C_E634_5CF3_207C ∷ 0x5482_0FE0_BA17_F46D ∷ 0x2B9B_00CA_D793_34EF ∷ 0x2B65_9A3B_DFA8_F725
    ∷ 0x547D_42AE_A287_9F2B ∷ 0x2B95_DF5C_A28E_F40D ∷ 0x54B2_49AD_2594_C368 ∷ 0x2B95_DF5C_A28E_F3F5 ∷ [])
    ≡ codes "1.23456789012345E+98" ∷ codes "1.2345678901235E+99" ∷ codes "1.23456789012345E-98" ∷ codes "1.2345678901235E-99"
    ∷ codes "1E+99" ∷ codes "1E-98" ∷ codes "1E+100" ∷ codes "1E-98" ∷ []
unfolding decimal_of of_15_digits magnitude places places_up_to digits
known_borders = refl
