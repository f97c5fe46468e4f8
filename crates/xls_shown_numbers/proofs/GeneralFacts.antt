-- What Excel shows under `General`, so that a wrong rule in the definitions does not check.
use Rattle.std.proofs.Common.{◌≡◌, ℕ, ◌∷◌, [], map, refl, pos, negsuc}
use Rattle.std.specs.Prelude.{ℤ, codes}
use Rattle.std.specs.Fmt.{digits}
use Rattle.xls_rounding.specs.Fractions.{places_up_to, places, magnitude}
use Rattle.xls_rounding.specs.Rounding.{of_15_digits, decimal_of}
use Rattle.xls_rounding.specs.declared.decimals.Decimal.{Decimal}
use Rattle.xls_shown_numbers.specs.Digits.{last_digits}
use Rattle.xls_shown_numbers.specs.General.{general}

abbrev decimal : ℕ → ℤ → Decimal
decimal q e = record { digits = q; exponent = e }

-- doubles, as Excel shows them
pub known_doubles : map (λ bits. general (decimal_of bits)) (0x3FF0_0000_0000_0000 ∷ 0x4028_0000_0000_0000 ∷ 0x405E_C000_0000_0000 ∷ 0x4093_4800_0000_0000 ∷
    0x40C8_1C80_0000_0000 ∷ 0x3FF3_3333_3333_3333 ∷ 0x3FF3_AE14_7AE1_47AE ∷ 0x3FF3_BE76_C8B4_3958 ∷
    0x3FF3_C0CA_4283_DE1B ∷ 0x3FF3_C0CA_42C8_964B ∷ 0x3FF3_C0CA_42D6_54BB ∷ 0x3FF3_C0CA_4306_6F43 ∷
    0x4024_0000_0000_0000 ∷ 0x4202_A05F_2000_0000 ∷ 0x4237_4876_E800_0000 ∷ 0x4239_9C82_CC00_0000 ∷
    0x423A_13B8_6000_0000 ∷ 0x423A_259A_0300_0000 ∷ 0x423A_2848_A840_0000 ∷ 0x423A_284A_2EE0_0000 ∷
    0x423A_2856_63E0_0000 ∷ 0x3FB9_9999_9999_999A ∷ 0x3F84_7AE1_47AE_147B ∷ 0x3E11_2E0B_E826_D695 ∷
    0x3DDB_7CDF_D9D7_BDBB ∷ 0x3DDE_3C8F_D606_EA4D ∷ 0x3DDE_C94C_A210_599E ∷ 0x3DDE_DE68_F3DE_90B7 ∷
    0x3DDE_E193_99BD_7F61 ∷ 0x3DDE_E195_66E8_A8DE ∷ 0x3DDE_E1A3_D041_F4CB ∷ 0x0000_0000_0000_0000 ∷
    0x3EE9_E3FE_580F_5494 ∷ 0x3EE9_E3AB_E16F_C70D ∷ 0x4237_4876_E7FF_8000 ∷ 0x54B6_9387_8AAE_8F8A ∷
    0x0010_0000_0000_0000 ∷ 0x0000_0000_0000_0001 ∷ 0x7FEF_FFFF_FFFF_FFFF ∷ 0x423C_BE99_1A14_0000 ∷
    0x41D2_6580_B4A3_3333 ∷ 0x3FD3_3333_3333_3334 ∷ [])
    ≡ codes "1" ∷ codes "12" ∷ codes "123" ∷ codes "1234" ∷ codes "12345" ∷ codes "1.2" ∷ codes "1.23" ∷ codes "1.234" ∷
    codes "1.23456789" ∷ codes "1.234567891" ∷ codes "1.234567891" ∷ codes "1.234567892" ∷ codes "10" ∷
    codes "10000000000" ∷ codes "1E+11" ∷ codes "1.1E+11" ∷ codes "1.12E+11" ∷ codes "1.123E+11" ∷ codes "1.12345E+11" ∷
    codes "1.12345E+11" ∷ codes "1.12346E+11" ∷ codes "0.1" ∷ codes "0.01" ∷ codes "0.000000001" ∷ codes "1E-10" ∷
    codes "1.1E-10" ∷ codes "1.12E-10" ∷ codes "1.123E-10" ∷ codes "1.12345E-10" ∷ codes "1.12345E-10" ∷
    codes "1.12346E-10" ∷ codes "0" ∷ codes "1.23456E-05" ∷ codes "0.000012345" ∷ codes "1E+11" ∷ codes "1.2345E+100" ∷
    codes "2.2251E-308" ∷ codes "0" ∷ codes "1.7977E+308" ∷ codes "1.23457E+11" ∷ codes "1234567891" ∷ codes "0.3" ∷ []
unfolding decimal_of of_15_digits magnitude places places_up_to digits last_digits
known_doubles = refl

-- 11 digits and 10 before the point; one digit more by rounding; 10 ^ 11; 9 digits and one decimal
pub known_from_ten_digits : map general (decimal 999_999_999_994_000 (negsuc 3) ∷ decimal 999_999_999_995_000 (negsuc 3) ∷
    decimal 123_456_789_015_000 (negsuc 3) ∷ decimal 100_000_000_000_000 (negsuc 2) ∷
    decimal 999_990_000_000_000 (negsuc 2) ∷ decimal 123_456_789_050_000 (negsuc 4) ∷
    decimal 999_999_999_940_000 (negsuc 4) ∷ decimal 999_999_999_950_000 (negsuc 4) ∷
    decimal 123_456_789_050_000 (negsuc 5) ∷ decimal 999_999_999_960_000 (negsuc 5) ∷
    decimal 123_456_789_040_000 (negsuc 5) ∷ [])
    ≡ codes "99999999999" ∷ codes "1E+11" ∷ codes "12345678902" ∷ codes "1E+11" ∷ codes "9.9999E+11" ∷ codes "1234567891" ∷
    codes "9999999999" ∷ codes "10000000000" ∷ codes "123456789.1" ∷ codes "1000000000" ∷ codes "123456789" ∷ []
unfolding places places_up_to digits last_digits
known_from_ten_digits = refl

-- each number of digits before the point: ten digits in all
pub known_from_one : map general (decimal 123_456_789_123_450 (negsuc 6) ∷ decimal 123_456_789_123_450 (negsuc 7) ∷
    decimal 123_456_789_123_450 (negsuc 8) ∷ decimal 123_456_789_123_450 (negsuc 9) ∷
    decimal 123_456_789_123_450 (negsuc 10) ∷ decimal 123_456_789_123_450 (negsuc 11) ∷
    decimal 123_456_789_123_450 (negsuc 12) ∷ decimal 123_456_789_123_450 (negsuc 13) ∷
    decimal 999_999_999_960_000 (negsuc 13) ∷ decimal 999_999_999_940_000 (negsuc 13) ∷
    decimal 100_000_000_004_000 (negsuc 11) ∷ decimal 120_000_000_000_000 (negsuc 8) ∷ [])
    ≡ codes "12345678.91" ∷ codes "1234567.891" ∷ codes "123456.7891" ∷ codes "12345.67891" ∷ codes "1234.567891" ∷
    codes "123.4567891" ∷ codes "12.34567891" ∷ codes "1.234567891" ∷ codes "10" ∷ codes "9.999999999" ∷ codes "100" ∷
    codes "120000" ∷ []
unfolding places places_up_to digits last_digits
known_from_one = refl

-- nine decimals from 10 ^ -4 on, and a carry
pub known_below_one : map general (decimal 999_999_999_600_000 (negsuc 14) ∷ decimal 123_456_789_500_000 (negsuc 14) ∷
    decimal 123_456_789_400_000 (negsuc 14) ∷ decimal 123_456_789_120_000 (negsuc 15) ∷
    decimal 123_456_789_120_000 (negsuc 16) ∷ decimal 123_456_789_120_000 (negsuc 17) ∷
    decimal 500_000_000_000_000 (negsuc 17) ∷ decimal 100_000_000_000_000 (negsuc 14) ∷ [])
    ≡ codes "1" ∷ codes "0.12345679" ∷ codes "0.123456789" ∷ codes "0.012345679" ∷ codes "0.001234568" ∷
    codes "0.000123457" ∷ codes "0.0005" ∷ codes "0.1" ∷ []
unfolding places places_up_to digits last_digits
known_below_one = refl

-- below it where nine decimals are the same to six digits, else an exponent
pub known_far_below_one : map general (decimal 123_450_000_000_000 (negsuc 18) ∷ decimal 123_456_000_000_000 (negsuc 18) ∷
    decimal 123_446_000_000_000 (negsuc 18) ∷ decimal 123_450_400_000_000 (negsuc 18) ∷
    decimal 999_999_990_000_000 (negsuc 18) ∷ decimal 123_400_000_000_000 (negsuc 19) ∷
    decimal 123_450_000_000_000 (negsuc 19) ∷ decimal 100_000_000_000_000 (negsuc 22) ∷
    decimal 150_000_000_000_000 (negsuc 22) ∷ decimal 999_999_600_000_000 (negsuc 23) ∷
    decimal 999_999_000_000_000 (negsuc 23) ∷ decimal 500_000_000_000_000 (negsuc 23) ∷
    decimal 100_000_000_000_000 (negsuc 23) ∷ decimal 999_999_600_000_000 (negsuc 24) ∷ [])
    ≡ codes "0.000012345" ∷ codes "1.23456E-05" ∷ codes "1.23446E-05" ∷ codes "0.000012345" ∷ codes "0.0001" ∷
    codes "0.000001234" ∷ codes "1.2345E-06" ∷ codes "0.000000001" ∷ codes "1.5E-09" ∷ codes "0.000000001" ∷
    codes "9.99999E-10" ∷ codes "5E-10" ∷ codes "1E-10" ∷ codes "1E-10" ∷ []
unfolding places places_up_to digits last_digits
known_far_below_one = refl

-- six digits, five where the exponent has three digits; a carry; 0
pub known_exponents : map general (decimal 123_456_700_000_000 (pos 6) ∷ decimal 999_999_600_000_000 (pos 6) ∷ decimal 999_999_400_000_000 (pos 6) ∷
    decimal 123_456_700_000_000 (pos 85) ∷ decimal 999_999_600_000_000 (pos 85) ∷ decimal 123_456_700_000_000 (pos 86) ∷
    decimal 999_950_000_000_000 (pos 294) ∷ decimal 999_996_000_000_000 (pos 294) ∷
    decimal 123_456_700_000_000 (negsuc 112) ∷ decimal 123_456_700_000_000 (negsuc 113) ∷
    decimal 999_996_000_000_000 (negsuc 113) ∷ decimal 999_994_000_000_000 (negsuc 113) ∷
    decimal 120_300_000_000_000 (negsuc 63) ∷ decimal 0 (pos 0) ∷ [])
    ≡ codes "1.23457E+20" ∷ codes "1E+21" ∷ codes "9.99999E+20" ∷ codes "1.23457E+99" ∷ codes "1E+100" ∷
    codes "1.2346E+100" ∷ codes "9.9995E+308" ∷ codes "1E+309" ∷ codes "1.23457E-99" ∷ codes "1.2346E-100" ∷
    codes "1E-99" ∷ codes "9.9999E-100" ∷ codes "1.203E-50" ∷ codes "0" ∷ []
unfolding places places_up_to digits last_digits
known_exponents = refl

-- 15 digits that became 10 ^ 15: 1, 10 ^ 10, 10 ^ 11, 10 ^ 99, 10 ^ 100, 10 ^ -4, 10 ^ -5
pub known_carried : map general (decimal 1_000_000_000_000_000 (negsuc 14) ∷ decimal 1_000_000_000_000_000 (negsuc 4) ∷
    decimal 1_000_000_000_000_000 (negsuc 3) ∷ decimal 1_000_000_000_000_000 (pos 84) ∷
    decimal 1_000_000_000_000_000 (pos 85) ∷ decimal 1_000_000_000_000_000 (negsuc 18) ∷
    decimal 1_000_000_000_000_000 (negsuc 19) ∷ [])
    ≡ codes "1" ∷ codes "10000000000" ∷ codes "1E+11" ∷ codes "1E+99" ∷ codes "1E+100" ∷ codes "0.0001" ∷ codes "0.00001" ∷ []
unfolding places places_up_to digits last_digits
known_carried = refl
