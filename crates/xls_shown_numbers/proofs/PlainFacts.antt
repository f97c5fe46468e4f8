-- What Excel shows under codes of places, so that a wrong rule in the definitions does not check.
use Rattle.std.proofs.Common.{◌≡◌, ℕ, List, ◌∷◌, [], map, refl}
use Rattle.std.specs.Prelude.{codes}
use Rattle.xls_rounding.specs.Fractions.{places_up_to, places, magnitude}
use Rattle.xls_rounding.specs.Rounding.{of_15_digits, decimal_of}
use Rattle.xls_number_formats.specs.Grammar.{items}
use Rattle.xls_shown_numbers.specs.Plain.{plain_text}

-- what a code shows of a double's size
abbrev shown : List ℕ × ℕ → List ℕ
shown row = plain_text (items row.0) (decimal_of row.1)

-- codes and doubles, as Excel shows them
pub known_texts_1 : map shown ((codes "0.00", 0x4028_B020_C49B_A5E3) ∷ (codes "0.0", 0x4028_B020_C49B_A5E3) ∷ (codes "000.00", 0x4028_9999_9999_999A) ∷
    (codes "£000.00", 0x4028_9999_9999_999A) ∷ (codes "###.##", 0x4028_9999_9999_999A) ∷
    (codes "#.##", 0x4028_9999_9999_999A) ∷ (codes "$###.##", 0x4028_9999_9999_999A) ∷ (codes "$#.#", 0x4028_AE14_7AE1_47AE) ∷
    (codes "$###.00", 0x4028_9999_9999_999A) ∷ (codes "\\a $#.00\" profit\"", 0x4028_9999_9999_999A) ∷
    (codes "¥#.00\" after\"", 0x4028_9999_9999_999A) ∷ (codes "\"before \"¥#.00", 0x4028_9999_9999_999A) ∷
    (codes "#,###", 0x4132_D687_0000_0000) ∷ (codes "#,##", 0x4132_D687_0000_0000) ∷ (codes "#,#", 0x4132_D687_0000_0000) ∷
    (codes ",#", 0x4132_D687_0000_0000) ∷ (codes "#,##.#", 0x4132_D687_0000_0000) ∷ (codes "0,000", 0x4132_D687_0000_0000) ∷
    (codes "0,00", 0x4132_D687_0000_0000) ∷ (codes "0,0", 0x4132_D687_0000_0000) ∷ (codes ",0", 0x4132_D687_0000_0000) ∷
    (codes "0,00.0", 0x4132_D687_0000_0000) ∷ (codes "0,0", 0x4028_0000_0000_0000) ∷ (codes "0,00", 0x405E_C000_0000_0000) ∷
    (codes "0,000", 0x4093_4800_0000_0000) ∷ (codes "0,0000", 0x40C8_1C80_0000_0000) ∷
    (codes "0,00000", 0x40FE_2400_0000_0000) ∷ (codes "0,000000", 0x4132_D687_0000_0000) ∷
    (codes "?,???", 0x4132_D687_0000_0000) ∷ (codes "?,????", 0x4132_D687_0000_0000) ∷
    (codes "?,?????", 0x4132_D687_0000_0000) ∷ (codes "?,??????", 0x4132_D687_0000_0000) ∷
    (codes "?,???????", 0x4132_D687_0000_0000) ∷ (codes "?,????????", 0x4132_D687_0000_0000) ∷
    (codes "?,?????????", 0x4132_D687_0000_0000) ∷ (codes "?,?", 0x4028_0000_0000_0000) ∷
    (codes "?,??", 0x405E_C000_0000_0000) ∷ (codes "?,???", 0x4093_4800_0000_0000) ∷ (codes "?,????", 0x40C8_1C80_0000_0000) ∷
    (codes "?,?????", 0x40FE_2400_0000_0000) ∷ [])
    ≡ codes "12.34" ∷ codes "12.3" ∷ codes "012.30" ∷ codes "£012.30" ∷ codes "12.3" ∷ codes "12.3" ∷ codes "$12.3" ∷
    codes "$12.3" ∷ codes "$12.30" ∷ codes "a $12.30 profit" ∷ codes "¥12.30 after" ∷ codes "before ¥12.30" ∷
    codes "1,234,567" ∷ codes "1,234,567" ∷ codes "1,234,567" ∷ codes ",1234567" ∷ codes "1,234,567." ∷ codes "1,234,567" ∷
    codes "1,234,567" ∷ codes "1,234,567" ∷ codes ",1234567" ∷ codes "1,234,567.0" ∷ codes "12" ∷ codes "123" ∷
    codes "1,234" ∷ codes "12,345" ∷ codes "123,456" ∷ codes "1,234,567" ∷ codes "1,234,567" ∷ codes "1,234,567" ∷
    codes "1,234,567" ∷ codes "1,234,567" ∷ codes " 1,234,567" ∷ codes "  1,234,567" ∷ codes "    1,234,567" ∷ codes "12" ∷
    codes "123" ∷ codes "1,234" ∷ codes "12,345" ∷ codes "123,456" ∷ []
unfolding decimal_of of_15_digits magnitude places places_up_to
known_texts_1 = refl

-- codes and doubles, as Excel shows them
pub known_texts_2 : map shown ((codes "0,0000", 0x4132_D687_0000_0000) ∷ (codes "0,00000", 0x4132_D687_0000_0000) ∷
    (codes "0,0000000", 0x4132_D687_0000_0000) ∷ (codes "0,00000000", 0x4132_D687_0000_0000) ∷
    (codes "0,000000000", 0x4132_D687_0000_0000) ∷ (codes "0,", 0x4132_D687_0000_0000) ∷
    (codes "#,,", 0x4132_D687_0000_0000) ∷ (codes "0.#,", 0x4132_D687_0000_0000) ∷ (codes "#,.#,", 0x4132_D687_0000_0000) ∷
    (codes "0.00%", 0x3F89_30BE_0DED_288D) ∷ (codes "0,0.00%", 0x405E_DCCC_CCCC_CCCD) ∷
    (codes "0,0.00%%", 0x405E_DCCC_CCCC_CCCD) ∷ (codes "|?.?|", 0x3FF1_9999_9999_999A) ∷
    (codes "|??.?|", 0x3FF1_9999_9999_999A) ∷ (codes "|?.??|", 0x3FF1_9999_9999_999A) ∷
    (codes "|??.??|", 0x3FF1_9999_9999_999A) ∷ (codes "?,?", 0x4132_D687_0000_0000) ∷
    (codes "#,##0.00", 0x4113_2CBC_0000_0000) ∷ (codes "$000,000,000", 0x4113_2CBC_0000_0000) ∷
    (codes "$0.00", 0x4009_C8B4_3958_1062) ∷ (codes "$000", 0x40D6_94CD_C654_0CC8) ∷ (codes "\"-\"0", 0x3F50_624D_D2F1_A9FC) ∷
    (codes "0!", 0x408F_3FFE_F9DB_22D1) ∷ (codes "#,##0.00 [$€-407]", 0x0000_0000_0000_0000) ∷
    (codes "0'", 0x404E_0000_0000_0000) ∷ (codes "$#,##0", 0x3FEF_AE14_7AE1_47AE) ∷ (codes "0.00000", 0x4146_9240_8000_0000) ∷
    (codes "0.0000", 0x3FEC_CCCC_CCCC_CCCD) ∷ (codes "0.?", 0x404D_8000_0000_0000) ∷ (codes "0.???", 0x3FE0_0000_0000_0000) ∷
    (codes "=0", 0x4146_9240_8000_0000) ∷ (codes "0.00\\%", 0x3FE7_5F19_690E_0858) ∷
    (codes "#,##0.0,\"K\"", 0x3FE7_5F19_690E_0858) ∷ (codes "[$$-409]#,##0.00", 0x7E41_EB2D_6600_5835) ∷
    (codes "0.00", 0x4415_AF1D_78B5_8C40) ∷ (codes "#?#", 0x40E1_D5D0_0000_0000) ∷
    (codes "\"\"\"quoted\"\" \"0", 0x3DE4_9DA7_E361_CE4C) ∷ (codes "#,##0%", 0x3F50_624D_D2F1_A9FC) ∷
    (codes "0 x", 0x40E6_24F2_581E_F293) ∷ (codes "#,##0.00 [$€-407]", 0x4059_0000_0000_0000) ∷ [])
    ≡ codes "1,234,567" ∷ codes "1,234,567" ∷ codes "01,234,567" ∷ codes "001,234,567" ∷ codes "0,001,234,567" ∷ codes "1235" ∷
    codes "1" ∷ codes "1234.6" ∷ codes "1.2" ∷ codes "1.23%" ∷ codes "12,345.00%" ∷ codes "1,234,500.00%%" ∷ codes "|1.1|" ∷
    codes "| 1.1|" ∷ codes "|1.1 |" ∷ codes "| 1.1 |" ∷ codes "1,234,567" ∷ codes "314,159.00" ∷ codes "$000,314,159" ∷
    codes "$3.22" ∷ codes "$23123" ∷ codes "-0" ∷ codes "1000!" ∷ codes "0.00 €" ∷ codes "60'" ∷ codes "$1" ∷
    codes "2958465.00000" ∷ codes "0.9000" ∷ codes "59. " ∷ codes "0.5  " ∷ codes "=2958465" ∷ codes "0.73%" ∷ codes "0.0K" ∷
    codes "$1,500,000,000,000,000,000,000,000,000,000,000,000,000,000,000,000,000,000,000,000,000,000,000,000,000,000,000,000,000,000,000,000,000,000,000,000,000,000,000,000,000,000,000,000,000,000,000,000,000,000,000,000,000,000,000,000,000,000,000,000,000,000,000,000,000,000,000,000,000,000,000,000,000,000,000,000,000,000,000,000,000,000,000,000,000,000,000,000,000,000,000,000,000,000,000,000,000,000,000,000.00" ∷
    codes "100000000000000000000.00" ∷ codes "36527" ∷ codes "quoted 0" ∷ codes "0%" ∷ codes "45352 x" ∷ codes "100.00 €" ∷ []
unfolding decimal_of of_15_digits magnitude places places_up_to
known_texts_2 = refl

-- codes and doubles, as Excel shows them
pub known_texts_3 : map shown ((codes "<0>", 0x3FE5_5555_5555_5555) ∷ (codes "0.00##", 0x40E3_4300_0000_0000) ∷ (codes "<0>", 0x3FEF_FFFF_CA50_1ACB) ∷
    (codes "-0", 0x40E6_24FF_FFFF_FFFF) ∷ (codes "0.000", 0x42DC_1221_8377_DE40) ∷ (codes "#?#", 0x3FE0_0000_0000_0000) ∷
    (codes "0.00\" €\"", 0x4202_A05F_2000_0000) ∷ (codes "~0", 0x40C8_1CD6_E631_F8A1) ∷
    (codes "000\\-00\\-0000", 0x40E6_24FF_FFFF_CA50) ∷ (codes "0 x", 0x3FD3_3333_3333_3334) ∷
    (codes "?0.0?", 0x4202_A05F_2000_0000) ∷ (codes "[$€-407] #,##0.00", 0x423C_BE99_1A14_0000) ∷
    (codes ".00", 0x404D_8000_0000_0000) ∷ (codes "0 \"kg\"", 0x3FD3_3333_3333_3333) ∷
    (codes "0.00000", 0x4009_21F9_F01B_866E) ∷ (codes ".##", 0x3FF8_0000_0000_0000) ∷ (codes "#,##0", 0x3FF8_0000_0000_0000) ∷
    (codes "00000", 0x4058_FFAE_147A_E148) ∷ (codes "\\a0\\b", 0x43B1_2210_F47D_E981) ∷
    (codes "\\%0", 0x3FD3_3333_3333_3334) ∷ (codes "0.000000000000000", 0x4062_C000_0000_0000) ∷
    (codes "[$-409]0.00", 0x423C_BE99_1A14_0000) ∷ (codes "\\%0", 0x3FD3_3333_3333_3333) ∷
    (codes "???,???.00", 0x40E6_24F2_581E_F293) ∷ (codes "#,##0.00\\ \"€\"", 0x4058_FFAE_147A_E148) ∷
    (codes "\"Total: \"#,##0.00", 0x3F70_624D_D2F1_A9FC) ∷ (codes "0#", 0x3FEF_FFF3_6AC6_4778) ∷
    (codes "\\a0\\b", 0x3FEE_6666_6666_6666) ∷ (codes "(0)", 0x7E41_EB2D_6600_5835) ∷
    (codes "[$€-2] #,##0.00", 0x3FF0_0000_0000_0000) ∷ (codes "0.0", 0x3FE6_6666_6666_6666) ∷
    (codes "#0#", 0x4009_21F9_F01B_866E) ∷ (codes "?0.0?", 0x0000_0000_0000_0000) ∷ (codes "0.0,,", 0x4146_9241_0000_0000) ∷
    (codes "0&", 0x3FD5_5555_5555_5555) ∷ (codes "#%", 0x4146_9241_0000_0000) ∷ (codes "#,##0.00 €", 0x4206_FEE0_E1A8_0000) ∷
    (codes "[$USD] 0.00", 0x4004_0000_0000_0000) ∷ (codes "0%", 0x40E3_4300_0000_0000) ∷
    (codes "[$-409]0.00", 0x40E1_D5D0_0000_0000) ∷ [])
    ≡ codes "<1>" ∷ codes "39448.00" ∷ codes "<1>" ∷ codes "-45352" ∷ codes "123456789012345.000" ∷ codes " 1" ∷
    codes "10000000000.00 €" ∷ codes "~12346" ∷ codes "000-04-5352" ∷ codes "0 x" ∷ codes "10000000000.0 " ∷
    codes "€ 123,456,789,012.00" ∷ codes "59.00" ∷ codes "0 kg" ∷ codes "3.14159" ∷ codes "1.5" ∷ codes "2" ∷ codes "00100" ∷
    codes "a1234567890123460000b" ∷ codes "%0" ∷ codes "150.000000000000000" ∷ codes "123456789012.00" ∷ codes "%0" ∷
    codes " 45,351.57" ∷ codes "100.00 €" ∷ codes "Total: 0.00" ∷ codes "01" ∷ codes "a1b" ∷
    codes "(1500000000000000000000000000000000000000000000000000000000000000000000000000000000000000000000000000000000000000000000000000000000000000000000000000000000000000000000000000000000000000000000000000000000000000000000000000000000000000000000000000000000000000000000000000000000000000000000000000000000000)" ∷
    codes "€ 1.00" ∷ codes "0.7" ∷ codes "03" ∷ codes " 0.0 " ∷ codes "3.0" ∷ codes "0&" ∷ codes "295846600%" ∷
    codes "12,345,678,901.00 €" ∷ codes "USD 2.50" ∷ codes "3944800%" ∷ codes "36526.50" ∷ []
unfolding decimal_of of_15_digits magnitude places places_up_to
known_texts_3 = refl

-- codes and doubles, as Excel shows them
pub known_texts_4 : map shown ((codes "&0", 0x404E_8000_0000_0000) ∷ (codes "0", 0x4132_D687_E418_9375) ∷ (codes "#,##0,", 0x404D_8000_0000_0000) ∷
    (codes "0\"kg\"", 0x4023_FD70_A3D7_0A3D) ∷ (codes "0%%", 0x3EE4_F8B5_88E3_68F1) ∷ (codes "#0#", 0x4146_9240_FFFF_FF29) ∷
    (codes "0.???", 0x4093_4A00_0000_0000) ∷ (codes "0", 0x3FE7_5F19_690E_0858) ∷ (codes "{0}", 0x4031_4000_0000_0000) ∷
    (codes "0^0", 0x42DC_1221_8377_DE40) ∷ (codes "#,##0.000", 0x423C_BE99_1A14_0000) ∷
    (codes "0\"kg\"", 0x4000_0000_0000_0000) ∷ (codes "(0)", 0x4028_B0FC_D324_D5A2) ∷
    (codes "0.00_-", 0x3FEF_AE14_7AE1_47AE) ∷ (codes "[$USD] 0.00", 0x3FE6_6666_6666_6666) ∷
    (codes "(000) 000-0000", 0x4004_0000_0000_0000) ∷ (codes ".##", 0x3FE7_5F19_690E_0858) ∷
    (codes "0-0", 0x4028_B0FC_D324_D5A2) ∷ (codes "0.0,,", 0x4206_FEE0_E1A8_0000) ∷
    (codes "[$€-407] #,##0.00", 0x40E6_24FF_FFF1_51E7) ∷ (codes "#,##0.0,\"K\"", 0x4237_4876_E800_0000) ∷
    (codes "0.0", 0x4237_4876_E7FF_8000) ∷ (codes "000", 0x3FD2_3D70_A3D7_0A3D) ∷ (codes "#", 0x404E_8000_0000_0000) ∷
    (codes "0,000", 0x404D_8000_0000_0000) ∷ (codes "000-00-0000", 0x01A5_6E1F_C2F8_F359) ∷
    (codes "0,000", 0x40E6_24F2_581E_F293) ∷ (codes "0.00_)", 0x3FEE_6666_6666_6666) ∷
    (codes "#,##0,,", 0x404E_8000_0000_0000) ∷ (codes "#,#", 0x4163_12CF_FE66_6666) ∷ (codes "00000", 0x3FE6_6666_6666_6666) ∷
    (codes "0.000000000000000", 0x4059_0000_0000_0000) ∷ (codes "* 0.00", 0x3FA7_0A3D_70A3_D70A) ∷
    (codes "000-00-0000", 0x3FF0_147A_E147_AE14) ∷ (codes "{0}", 0x4093_4A00_0000_0000) ∷ (codes "#", 0x3FE7_5F19_690E_0858) ∷
    (codes "#,##0.00", 0x3FF0_0000_0000_0000) ∷ (codes "0^0", 0x404E_0000_0000_0000) ∷
    (codes "\"a\"\"b\"0", 0x401A_0000_0000_0000) ∷ (codes "0.0.0", 0x4093_4A00_0000_0000) ∷ [])
    ≡ codes "&61" ∷ codes "1234568" ∷ codes "0" ∷ codes "10kg" ∷ codes "0%%" ∷ codes "2958466" ∷ codes "1234.5  " ∷ codes "1" ∷
    codes "{17}" ∷ codes "12345678901234^5" ∷ codes "123,456,789,012.000" ∷ codes "2kg" ∷ codes "(12)" ∷ codes "0.99 " ∷
    codes "USD 0.70" ∷ codes "(000) 000-0003" ∷ codes ".73" ∷ codes "1-2" ∷ codes "12345.7" ∷ codes "€ 45,352.00" ∷
    codes "100,000,000.0K" ∷ codes "99999999999.5" ∷ codes "000" ∷ codes "61" ∷ codes "0,059" ∷ codes "000-00-0000" ∷
    codes "45,352" ∷ codes "0.95 " ∷ codes "0" ∷ codes "10,000,000" ∷ codes "00001" ∷ codes "100.000000000000000" ∷
    codes "0.05" ∷ codes "000-00-0001" ∷ codes "{1235}" ∷ codes "1" ∷ codes "1.00" ∷ codes "6^0" ∷ codes "ab7" ∷
    codes "1234.5.0" ∷ []
unfolding decimal_of of_15_digits magnitude places places_up_to
known_texts_4 = refl

-- codes and doubles, as Excel shows them
pub known_texts_5 : map shown ((codes "0##", 0x404E_0000_0000_0000) ∷ (codes "0:00", 0x3FEF_DF3B_645A_1CAC) ∷
    (codes "[$€-2] #,##0.00", 0x3FD3_3333_3333_3333) ∷ (codes "0.0,", 0x3FD5_5555_5555_5555) ∷
    (codes "#,##0.000", 0x3FF0_AAAA_AAAC_F513) ∷ (codes "0##", 0x0000_0000_0000_0000) ∷
    (codes "#,##0,,", 0x0000_0000_0000_0000) ∷ (codes "0x", 0x3FD2_3D70_A3D7_0A3D) ∷
    (codes "0.00,,\"M\"", 0x3F70_624D_D2F1_A9FC) ∷ (codes "#.##0,00", 0x3FEF_DF3B_645A_1CAC) ∷
    (codes "0.00,,\"M\"", 0x3F40_0E6A_FCCE_1C58) ∷ (codes "0.0.0", 0x3FD5_5555_5555_5555) ∷
    (codes "0.00%", 0x3FF0_AAAA_AAAC_F513) ∷ (codes "0-0", 0x3DE4_9DA7_E361_CE4C) ∷ (codes "0.0#", 0x401A_0000_0000_0000) ∷
    (codes "0.00", 0x3FF0_147A_E147_AE14) ∷ (codes "0", 0x3FE0_0000_0000_0000) ∷ (codes "0", 0x4004_0000_0000_0000) ∷
    (codes "0.00", 0x3FC0_0000_0000_0000) ∷ (codes "0.0", 0x3FA9_9999_9999_999A) ∷ (codes "0", 0x3FDF_FFFF_FFFF_FFFF) ∷
    (codes "0", 0x42E0_0000_0000_0010) ∷ (codes "#", 0x0000_0000_0000_0000) ∷ (codes "#.#", 0x3FF0_0000_0000_0000) ∷
    (codes "0##", 0x3FF0_0000_0000_0000) ∷ (codes "0.0,0", 0x4093_4A00_0000_0000) ∷
    (codes "#.##0,00", 0x4093_4A00_0000_0000) ∷ (codes "#,##0", 0x437B_69B4_BA63_0F35) ∷
    (codes "0.000000000000000000", 0x3FB9_9999_9999_999A) ∷ (codes "000000.??%%^", 0x400F_F5C2_8F5C_28F6) ∷
    (codes "000,,.??,,", 0x3FE0_0000_0000_0000) ∷ (codes "\"$\"#,##0.00", 0x40E0_AFFE_7EF9_DB23) ∷
    (codes "0?.?%%* ", 0x3FF1_9999_9999_999A) ∷ (codes "#,##0.???", 0x0000_0000_0000_0000) ∷
    (codes "#?.?##%!", 0x4120_C5F8_0000_0000) ∷ (codes "[$€-2] #,##0", 0x40F5_4364_CCCC_CCCD) ∷
    (codes "???0.00#%\"a\"\"b\"", 0x3F81_6872_B020_C49C) ∷ (codes "00000,.#,\"M\"", 0x3FDA_F1A9_FBE7_6C8B) ∷
    (codes "[$€-2] #,##0.00", 0x40EE_2670_7525_460B) ∷ (codes "#0,.??,", 0x40F7_F225_70A3_D70A) ∷ [])
    ≡ codes "060" ∷ codes "0:01" ∷ codes "€ 0.30" ∷ codes "0.0" ∷ codes "1.042" ∷ codes "0" ∷ codes "0" ∷ codes "0x" ∷
    codes "0.00M" ∷ codes ".99600" ∷ codes "0.00M" ∷ codes "0.3.3" ∷ codes "104.17%" ∷ codes "0-0" ∷ codes "6.5" ∷
    codes "1.01" ∷ codes "1" ∷ codes "3" ∷ codes "0.13" ∷ codes "0.1" ∷ codes "1" ∷ codes "140737488355329" ∷ codes "" ∷
    codes "1." ∷ codes "01" ∷ codes "1,234.50" ∷ codes "1,234.50000" ∷ codes "123,456,789,012,346,000" ∷
    codes "0.100000000000000000" ∷ codes "039950.  %%^" ∷ codes "000.  " ∷ codes "$34,175.95" ∷ codes "11000. %%" ∷
    codes "0.   " ∷ codes "54962800. %!" ∷ codes "€ 87,094" ∷ codes "   0.85%ab" ∷ codes "00000.M" ∷ codes "€ 61,747.51" ∷
    codes "0.1 " ∷ []
unfolding decimal_of of_15_digits magnitude places places_up_to
known_texts_5 = refl

-- codes and doubles, as Excel shows them
pub known_texts_6 : map shown ((codes "0?,0?%!", 0x40F0_108A_5F29_90F3) ∷ (codes "#,##0,,.0000,,", 0x412C_88D6_0000_0000) ∷
    (codes "##\"x\"~'##\"x\"", 0x40B1_4919_9999_999A) ∷ (codes "#,##0", 0x412E_8480_0000_0000) ∷
    (codes "#,??0?0.??%_-", 0x4119_9818_0000_0000) ∷ [])
    ≡ codes "6,580,065%!" ∷ codes "0.0000" ∷ codes "44x~'25x" ∷ codes "1,000,000" ∷ codes "41,933,400.  % " ∷ []
unfolding decimal_of of_15_digits magnitude places places_up_to
known_texts_6 = refl

-- before the first place; before a whole place, also behind the point before a decimal place; behind a place, a run of them, before the point and at the end; apart from a place; behind the point
pub known_commas : map shown ((codes ",0", 0x4093_4800_0000_0000) ∷ (codes ",#,##0", 0x4093_4800_0000_0000) ∷ (codes "#,#", 0x4132_D687_0000_0000) ∷
    (codes "0,0,.0", 0x4132_D687_0000_0000) ∷ (codes "0.0,0", 0x4093_4A00_0000_0000) ∷ (codes "0,", 0x4097_7000_0000_0000) ∷
    (codes "0,,", 0x4143_12D0_0000_0000) ∷ (codes "0.0,,", 0x4132_D687_0000_0000) ∷ (codes "0,.0", 0x4093_4800_0000_0000) ∷
    (codes "0\" \",", 0x4093_4800_0000_0000) ∷ (codes "0.,", 0x4093_4800_0000_0000) ∷
    (codes "0[Red],", 0x4097_7000_0000_0000) ∷ (codes "0%,", 0x4028_0000_0000_0000) ∷
    (codes "0\"\",0", 0x4093_4800_0000_0000) ∷ (codes "0\" \",0", 0x4093_4800_0000_0000) ∷
    (codes "0,\"x\",", 0x4132_D687_0000_0000) ∷ [])
    ≡ codes ",1234" ∷ codes ",1,234" ∷ codes "1,234,567" ∷ codes "1,234.6" ∷ codes "1,234.50" ∷ codes "2" ∷ codes "3" ∷
    codes "1.2" ∷ codes "1.2" ∷ codes "1234 ," ∷ codes "1234.," ∷ codes "2" ∷ codes "1200%," ∷ codes "1,234" ∷
    codes "1,23 4" ∷ codes "1235x," ∷ []
unfolding decimal_of of_15_digits magnitude places places_up_to
known_commas = refl

-- each times 100, wherever it stands; none without a place
pub known_percents : map shown ((codes "%0", 0x3FE0_0000_0000_0000) ∷ (codes "0%%", 0x3FE0_0000_0000_0000) ∷ (codes "0.0%", 0x3FC0_1062_4DD2_F1AA) ∷
    (codes "0%.0", 0x3FE0_0000_0000_0000) ∷ (codes "%", 0x3FE0_0000_0000_0000) ∷ (codes "%,.", 0x3FE0_0000_0000_0000) ∷
    (codes "\"x\"", 0x4028_0000_0000_0000) ∷ (codes ".", 0x4028_0000_0000_0000) ∷ [])
    ≡ codes "%50" ∷ codes "5000%%" ∷ codes "12.6%" ∷ codes "50%.0" ∷ codes "%" ∷ codes "%,." ∷ codes "x" ∷ codes "." ∷ []
unfolding decimal_of of_15_digits magnitude places places_up_to
known_percents = refl

-- without a digit: `0`, `?`, `#`, in groups; the leftmost takes all that are left
pub known_places : map shown ((codes "0000", 0x4028_0000_0000_0000) ∷ (codes "????", 0x4028_0000_0000_0000) ∷ (codes "####", 0x4028_0000_0000_0000) ∷
    (codes "#", 0x0000_0000_0000_0000) ∷ (codes "?", 0x0000_0000_0000_0000) ∷ (codes "0", 0x0000_0000_0000_0000) ∷
    (codes "0,000", 0x4028_0000_0000_0000) ∷ (codes "?,???", 0x4028_0000_0000_0000) ∷ (codes "#,###", 0x4028_0000_0000_0000) ∷
    (codes "0?#0", 0x3FF0_0000_0000_0000) ∷ (codes "0-00", 0x40C8_1C80_0000_0000) ∷ (codes "000-00", 0x40C8_1C80_0000_0000) ∷
    (codes "#,#-#", 0x4132_D687_0000_0000) ∷ (codes "0,000,000", 0x0000_0000_0000_0000) ∷
    (codes "?,???,???", 0x0000_0000_0000_0000) ∷ (codes "#,##0", 0x405E_C000_0000_0000) ∷
    (codes "#,##0", 0x4093_4800_0000_0000) ∷ (codes "#,##0", 0x41D2_6580_B480_0000) ∷ [])
    ≡ codes "0012" ∷ codes "  12" ∷ codes "12" ∷ codes "" ∷ codes " " ∷ codes "0" ∷ codes "0,012" ∷ codes "   12" ∷ codes "12" ∷
    codes "0 1" ∷ codes "123-45" ∷ codes "123-45" ∷ codes "1,234,56-7" ∷ codes "0,000,000" ∷ codes "         " ∷ codes "123" ∷
    codes "1,234" ∷ codes "1,234,567,890" ∷ []
unfolding decimal_of of_15_digits magnitude places places_up_to
known_places = refl

-- digits up to the last that is not 0 and to the last `0`; a point without them; without whole places; a second point
pub known_decimals : map shown ((codes "0.00", 0x3FF8_0000_0000_0000) ∷ (codes "0.##", 0x3FF8_0000_0000_0000) ∷ (codes "0.??", 0x3FF8_0000_0000_0000) ∷
    (codes "0.##", 0x3FF0_0000_0000_0000) ∷ (codes "0.??", 0x3FF0_0000_0000_0000) ∷ (codes "0.#0#", 0x3FF0_0000_0000_0000) ∷
    (codes "0.?0?", 0x3FF0_0000_0000_0000) ∷ (codes "0.###", 0x3FF3_3F7C_ED91_6873) ∷ (codes "0.0.0", 0x3FF4_0000_0000_0000) ∷
    (codes ".00", 0x3FE0_0000_0000_0000) ∷ (codes ".00", 0x4029_0000_0000_0000) ∷ (codes ".0,0", 0x4093_4A00_0000_0000) ∷
    (codes "0.", 0x3FF8_0000_0000_0000) ∷ (codes "#.##", 0x0000_0000_0000_0000) ∷ (codes "0.0\"a\"0", 0x3FF4_0000_0000_0000) ∷
    (codes "0.00", 0x3FF0_147A_E147_AE14) ∷ (codes "0.00", 0x3FC0_0000_0000_0000) ∷ (codes "0.00", 0x3F50_624D_D2F1_A9FC) ∷
    (codes "0.0", 0x3FEE_6666_6666_6666) ∷ (codes "0", 0x3FDF_FFFF_FFFF_FFFF) ∷ (codes "0", 0x43E5_6A95_319D_63E1) ∷
    (codes "0.0", 0x4415_AF1D_78B5_8C40) ∷ [])
    ≡ codes "1.50" ∷ codes "1.5" ∷ codes "1.5 " ∷ codes "1." ∷ codes "1.  " ∷ codes "1.00" ∷ codes "1.00 " ∷ codes "1.203" ∷
    codes "1.2.5" ∷ codes ".50" ∷ codes "12.50" ∷ codes "1,234.50" ∷ codes "2." ∷ codes "." ∷ codes "1.2a5" ∷ codes "1.01" ∷
    codes "0.13" ∷ codes "0.00" ∷ codes "1.0" ∷ codes "1" ∷ codes "12345678901234600000" ∷ codes "100000000000000000000.0" ∷ []
unfolding decimal_of of_15_digits magnitude places places_up_to
known_decimals = refl

-- `@` shows nothing, a slash and a digit stand for themselves
pub known_others : map shown ((codes "0@", 0x4014_0000_0000_0000) ∷ (codes "@0@", 0x4014_0000_0000_0000) ∷ (codes "1/0", 0x4014_0000_0000_0000) ∷
    (codes "0 1", 0x4014_0000_0000_0000) ∷ [])
    ≡ codes "5" ∷ codes "5" ∷ codes "1/5" ∷ codes "5 1" ∷ []
unfolding decimal_of of_15_digits magnitude places places_up_to
known_others = refl
