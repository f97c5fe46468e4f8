-- What codes of several sections show, as Excel shows it, so that a wrong rule in the definitions does not check.
use Rattle.std.proofs.Common.{ℕ, false, List, ◌∷◌, [], refl}
use Rattle.std.specs.Prelude.{codes, ⊤}
use Rattle.std.specs.Float.{float_with_sign, round_with}
use Rattle.std.specs.Float.Ieee.{of_bits, of_fields, odd, lt, le, eq, ne, div, mul, sub, add, neg, sum, round, units, size, to_unsigned, of_int}
use Rattle.std.proofs.lemmas.Float.Parse.{parse_float_on_literals}
use Rattle.std.specs.Fmt.{digits}
use Rattle.xls_rounding.specs.Fractions.{places_up_to, places, magnitude}
use Rattle.xls_rounding.specs.Rounding.{of_15_digits, decimal_of}
use Rattle.xls_shown_numbers.specs.Digits.{last_digits}
use Rattle.xls_shown_fractions.specs.Ratios.{quotients}
use Rattle.xls_shown.specs.Shown.{IsShown}

-- each code shows its double as its text
abbrev AreShown : List (List ℕ × ℕ × List ℕ) → Type 0
AreShown [] = ⊤
AreShown (row ∷ rows) = IsShown (row.0) false (row.1) (row.2) × AreShown rows

-- codes, doubles and texts, as Excel shows them
pub known_texts_1 : AreShown ((codes "General", 0x3FF0_0000_0000_0000, codes "1") ∷
    (codes "General", 0xBFF0_0000_0000_0000, codes "-1") ∷
    (codes "[<10]#\" Wow\"", 0x3FF0_0000_0000_0000, codes "1 Wow") ∷
    (codes "[>10]#\" Big\"", 0x4024_0000_0000_0000, codes "10") ∷
    (codes "[<=10]#\" Wow\"", 0x3FF0_0000_0000_0000, codes "1 Wow") ∷
    (codes "[>=10]#\" Big\"", 0x4024_0000_0000_0000, codes "10 Big") ∷
    (codes "[=10]#\" Wow\"", 0x3FF0_0000_0000_0000, codes "1") ∷
    (codes "[<>10]#\" Wow\"", 0x3FF0_0000_0000_0000, codes "1 Wow") ∷ [])
unfolding decimal_of of_15_digits magnitude places places_up_to last_digits digits quotients of_bits of_fields odd lt le eq ne div mul sub add neg sum round units size to_unsigned of_int round_with float_with_sign parse_float_on_literals
known_texts_1 = (refl, (refl, (refl, (refl, (refl, (refl, (refl, (refl, tt))))))))

-- codes, doubles and texts, as Excel shows them
pub known_texts_2 : AreShown ((codes "[< 10]#\" Wow\"", 0x3FF0_0000_0000_0000, codes "1 Wow") ∷
    (codes "[<      10]#\" Wow\"", 0x3FF0_0000_0000_0000, codes "1 Wow") ∷
    (codes "0.00;[Red]0.00", 0x3FA7_0A3D_70A3_D70A, codes "0.05") ∷
    (codes "#,##0;(#,##0);\"-\"", 0xC132_D687_E418_9375, codes "(1,234,568)") ∷
    (codes "0;;", 0x4415_AF1D_78B5_8C40, codes "100000000000000000000") ∷
    (codes "_-* #,##0.00_-;-* #,##0.00_-;_-* \"-\"??_-;_-@_-", 0x3FE5_5555_5555_5555, codes " 0.67 ") ∷
    (codes "0;-0", 0x42DC_1221_8377_DE40, codes "123456789012345") ∷
    (codes "#,##0.00 [$€-407]", 0x0000_0000_0000_0000, codes "0.00 €") ∷ [])
unfolding decimal_of of_15_digits magnitude places places_up_to last_digits digits quotients of_bits of_fields odd lt le eq ne div mul sub add neg sum round units size to_unsigned of_int round_with float_with_sign parse_float_on_literals
known_texts_2 = (refl, (refl, (refl, (refl, (refl, (refl, (refl, (refl, tt))))))))

-- codes, doubles and texts, as Excel shows them
pub known_texts_3 : AreShown ((codes "\"$\"#,##0_);[Red]\\(\"$\"#,##0\\)", 0x3FA7_0A3D_70A3_D70A, codes "$0 ") ∷
    (codes "[<=100]0;[>100]0.0", 0xC0C8_1CD6_E631_F8A1, codes "-12346") ∷
    (codes "[>100][Red]0;[<-100][Blue]0;0.0", 0x3FE7_5F19_690E_0858, codes "0.7") ∷
    (codes "[<10]0\" Wow\"", 0x3FE5_5555_5555_5555, codes "1 Wow") ∷
    (codes "_(\"$\"* #,##0.00_);_(\"$\"* \\(#,##0.00\\);_(\"$\"* \"-\"??_);_(@_)", 0x3FD3_3333_3333_3334, codes " $0.30 ") ∷
    (codes "#,##0;(#,##0);\"-\"", 0x3FE0_0000_0000_0000, codes "1") ∷
    (codes "[<0]\"minus \"0.0;[>0]\"plus \"0.0;\"null\"", 0x3FE0_0000_0000_0000, codes "plus 0.5") ∷
    (codes "0;-0;\"zero\"", 0x404E_8000_0000_0000, codes "61") ∷ [])
unfolding decimal_of of_15_digits magnitude places places_up_to last_digits digits quotients of_bits of_fields odd lt le eq ne div mul sub add neg sum round units size to_unsigned of_int round_with float_with_sign parse_float_on_literals
known_texts_3 = (refl, (refl, (refl, (refl, (refl, (refl, (refl, (refl, tt))))))))

-- codes, doubles and texts, as Excel shows them
pub known_texts_4 : AreShown ((codes ";;0", 0x3FF0_147A_E147_AE14, codes "") ∷
    (codes "[Blue]0.00;[Red]-0.00;[Green]0", 0x3FA7_0A3D_70A3_D70A, codes "0.05") ∷
    (codes "[<0]\"minus \"0;0", 0x3FE6_6666_6666_6666, codes "1") ∷
    (codes "+0;-0;0", 0xC093_4A00_0000_0000, codes "-1235") ∷
    (codes "General;-General", 0x412E_847F_0000_0000, codes "999999.5") ∷
    (codes "0;0;[Red]0", 0x4062_C000_0000_0000, codes "150") ∷
    (codes "[>999999]#,,\"M\";[>999]#,\"K\";#", 0x4237_4876_E7FF_8000, codes "100000M") ∷
    (codes "General;[Red]-General", 0x4132_D687_E418_9375, codes "1234567.891") ∷ [])
unfolding decimal_of of_15_digits magnitude places places_up_to last_digits digits quotients of_bits of_fields odd lt le eq ne div mul sub add neg sum round units size to_unsigned of_int round_with float_with_sign parse_float_on_literals
known_texts_4 = (refl, (refl, (refl, (refl, (refl, (refl, (refl, (refl, tt))))))))

-- codes, doubles and texts, as Excel shows them
pub known_texts_5 : AreShown ((codes "#,##0_);[Red]\\(#,##0\\)", 0x3F70_624D_D2F1_A9FC, codes "0 ") ∷
    (codes "[$€-407] #,##0.00", 0x423C_BE99_1A14_0000, codes "€ 123,456,789,012.00") ∷
    (codes "0;", 0xBFF0_0000_0000_0000, codes "") ∷
    (codes "_ * #,##0_ ;_ * -#,##0_ ;_ * \"-\"_ ;_ @_ ", 0x01A5_6E1F_C2F8_F359, codes " 0 ") ∷
    (codes "\"$\"#,##0_);\\(\"$\"#,##0\\)", 0x01A5_6E1F_C2F8_F359, codes "$0 ") ∷
    (codes "_(* #,##0.00_);_(* \\(#,##0.00\\);_(* \"-\"??_);_(@_)", 0xC059_2000_0000_0000, codes " (100.50)") ∷
    (codes "###,##0.00;\\-###,##0.00;0.00", 0x4023_FD70_A3D7_0A3D, codes "10.00") ∷
    (codes "+0.0;-0.0", 0x40E1_D5D0_0000_0000, codes "+36526.5") ∷ [])
unfolding decimal_of of_15_digits magnitude places places_up_to last_digits digits quotients of_bits of_fields odd lt le eq ne div mul sub add neg sum round units size to_unsigned of_int round_with float_with_sign parse_float_on_literals
known_texts_5 = (refl, (refl, (refl, (refl, (refl, (refl, (refl, (refl, tt))))))))

-- codes, doubles and texts, as Excel shows them
pub known_texts_6 : AreShown ((codes "_-* #,##0.00\" TL\"_-;\\-* #,##0.00\" TL\"_-;_-* \\-??\" TL\"_-;_-@_-", 0xBF70_624D_D2F1_A9FC, codes "-0.00 TL ") ∷
    (codes "[Color10]0.0;[Color3]-0.0", 0x3FF0_147A_E147_AE14, codes "1.0") ∷
    (codes "[$-409]0.00", 0x423C_BE99_1A14_0000, codes "123456789012.00") ∷
    (codes "[=1]\"one\";[=2]\"two\";0", 0x3DE4_9DA7_E361_CE4C, codes "0") ∷
    (codes "[$€-2] #,##0.00", 0x3FF0_0000_0000_0000, codes "€ 1.00") ∷
    (codes "[<-5]0.0;0.00", 0xBF70_624D_D2F1_A9FC, codes "0.00") ∷
    (codes "General\"x\"", 0xBFF0_0000_0000_0000, codes "-1x") ∷
    (codes ";;;", 0x3DE4_9DA7_E361_CE4C, codes "") ∷ [])
unfolding decimal_of of_15_digits magnitude places places_up_to last_digits digits quotients of_bits of_fields odd lt le eq ne div mul sub add neg sum round units size to_unsigned of_int round_with float_with_sign parse_float_on_literals
known_texts_6 = (refl, (refl, (refl, (refl, (refl, (refl, (refl, (refl, tt))))))))

-- codes, doubles and texts, as Excel shows them
pub known_texts_7 : AreShown ((codes "#,##0_ ;[Red]\\-#,##0\\ ", 0x4093_4A00_0000_0000, codes "1,235 ") ∷
    (codes ";0;", 0x4146_9241_0000_0000, codes "") ∷
    (codes "[$USD] 0.00", 0x4004_0000_0000_0000, codes "USD 2.50") ∷
    (codes ";;", 0x412E_847F_0000_0000, codes "") ∷
    (codes "[>=100]0\"+\";0.00", 0x4146_9240_8000_0000, codes "2958465+") ∷
    (codes "[Red]General", 0x4163_12CF_FE66_6666, codes "9999999.95") ∷
    (codes "#,##0;(#,##0);-", 0xBF70_624D_D2F1_A9FC, codes "(0)") ∷
    (codes "\"pos\";\"neg\";\"zero\"", 0x4237_4876_E800_0000, codes "pos") ∷ [])
unfolding decimal_of of_15_digits magnitude places places_up_to last_digits digits quotients of_bits of_fields odd lt le eq ne div mul sub add neg sum round units size to_unsigned of_int round_with float_with_sign parse_float_on_literals
known_texts_7 = (refl, (refl, (refl, (refl, (refl, (refl, (refl, (refl, tt))))))))

-- codes, doubles and texts, as Excel shows them
pub known_texts_8 : AreShown ((codes "[>=100]0\"+\";[<0]\"neg\";0.00", 0xBFE0_0000_0000_0000, codes "neg") ∷
    (codes "_-* #,##0.00\" TL\"_-;\\-* #,##0.00\" TL\"_-;_-* \\-??\" TL\"_-;_-@_-", 0x4415_AF1D_78B5_8C40, codes " 100,000,000,000,000,000,000.00 TL ") ∷
    (codes "[<>0]0.0;\"-\"", 0xBFF8_0000_0000_0000, codes "-1.5") ∷
    (codes "#,##0_);\\(#,##0\\)", 0x4202_A05F_2000_0000, codes "10,000,000,000 ") ∷
    (codes "0.00%;[Red]-0.00%", 0x4237_4876_E7FF_8000, codes "9999999999950.00%") ∷
    (codes "[>=1000000]0.0,,\"M\";[>=1000]0.0,\"K\";0", 0x4146_9240_8000_0000, codes "3.0M") ∷
    (codes "\"$\"#,##0.00_);\\(\"$\"#,##0.00\\)", 0xC004_0000_0000_0000, codes "($2.50)") ∷
    (codes "\"$\"#,##0.00_);\\(\"$\"#,##0.00\\)", 0x4237_4876_E7FF_8000, codes "$99,999,999,999.50 ") ∷ [])
unfolding decimal_of of_15_digits magnitude places places_up_to last_digits digits quotients of_bits of_fields odd lt le eq ne div mul sub add neg sum round units size to_unsigned of_int round_with float_with_sign parse_float_on_literals
known_texts_8 = (refl, (refl, (refl, (refl, (refl, (refl, (refl, (refl, tt))))))))

-- codes, doubles and texts, as Excel shows them
pub known_texts_9 : AreShown ((codes "[<-5]0.0;0.00", 0x430C_6BF5_2634_0000, codes "1000000000000000.00") ∷
    (codes "$#,##0.00;-$#,##0.00", 0x3FEE_6666_6666_6666, codes "$0.95") ∷
    (codes "0.0%;(0.0%)", 0x43B1_2210_F47D_E981, codes "123456789012346000000.0%") ∷
    (codes "0;-0;\"zero\";\"text \"@", 0x412E_847F_0000_0000, codes "1000000") ∷
    (codes "#,##0.00_);\\(#,##0.00\\)", 0x40C8_1CD6_E631_F8A1, codes "12,345.68 ") ∷
    (codes "#,##0.00;(#,##0.00);0.00", 0x3FEF_DF3B_645A_1CAC, codes "1.00") ∷
    (codes "[$£-809]#,##0.00;[Red]-[$£-809]#,##0.00", 0xC0C8_1CD6_E631_F8A1, codes "-£12,345.68") ∷
    (codes "0;(0)", 0x404E_0000_0000_0000, codes "60") ∷ [])
unfolding decimal_of of_15_digits magnitude places places_up_to last_digits digits quotients of_bits of_fields odd lt le eq ne div mul sub add neg sum round units size to_unsigned of_int round_with float_with_sign parse_float_on_literals
known_texts_9 = (refl, (refl, (refl, (refl, (refl, (refl, (refl, (refl, tt))))))))

-- codes, doubles and texts, as Excel shows them
pub known_texts_10 : AreShown ((codes "_(* #,##0_);_(* \\(#,##0\\);_(* \"-\"_);_(@_)", 0x404D_8000_0000_0000, codes " 59 ") ∷
    (codes "[$£-809]#,##0.00;[Red]-[$£-809]#,##0.00", 0x3F20_2E85_BE11_1841, codes "£0.00") ∷
    (codes "_(* #,##0.00_);_(* \\(#,##0.00\\);_(* \"-\"??_);_(@_)", 0x3DE4_9DA7_E361_CE4C, codes " 0.00 ") ∷
    (codes "_(\"$\"* #,##0_);_(\"$\"* \\(#,##0\\);_(\"$\"* \"-\"_);_(@_)", 0x40E3_4300_0000_0000, codes " $39,448 ") ∷
    (codes "\"x\"General", 0x412E_847F_0000_0000, codes "x999999.5") ∷
    (codes "0;0", 0x4341_C379_37E0_8000, codes "10000000000000000") ∷
    (codes "[>=100]0\"+\";0.00", 0xBFF0_0000_0000_0000, codes "-1.00") ∷
    (codes "[<0]\"minus \"0;0", 0xBFF0_0000_0000_0000, codes "minus 1") ∷ [])
unfolding decimal_of of_15_digits magnitude places places_up_to last_digits digits quotients of_bits of_fields odd lt le eq ne div mul sub add neg sum round units size to_unsigned of_int round_with float_with_sign parse_float_on_literals
known_texts_10 = (refl, (refl, (refl, (refl, (refl, (refl, (refl, (refl, tt))))))))

-- codes, doubles and texts, as Excel shows them
pub known_texts_11 : AreShown ((codes "[<5]0;[>10]0", 0x401C_0000_0000_0000, codes "########") ∷
    (codes "[=1]\"one\";[=2]\"two\";0", 0xBFF0_0000_0000_0000, codes "-1") ∷
    (codes "", 0xBFF8_0000_0000_0000, codes "-1.5") ∷
    (codes "[Foo]0", 0x3FF0_0000_0000_0000, codes "1") ∷
    (codes "[Red]", 0x4014_0000_0000_0000, codes "5") ∷
    (codes "[0", 0x4000_0000_0000_0000, codes "[2") ∷
    (codes "0;0;0;0;0", 0xC000_0000_0000_0000, codes "2") ∷
    (codes "#,##0.00\\ $;-#,##0.00\\ $", 0x40F5_C450_0000_0000, codes "89,157.00 $") ∷ [])
unfolding decimal_of of_15_digits magnitude places places_up_to last_digits digits quotients of_bits of_fields odd lt le eq ne div mul sub add neg sum round units size to_unsigned of_int round_with float_with_sign parse_float_on_literals
known_texts_11 = (refl, (refl, (refl, (refl, (refl, (refl, (refl, (refl, tt))))))))

-- codes, doubles and texts, as Excel shows them
pub known_texts_12 : AreShown ((codes ";[$€-407]#?#.??\"$\";>##0.00[$€-407];@", 0x42F2_0DA2_AF79_BC05, codes "") ∷
    (codes "[<-5]_)#?,00.#?0?)", 0x40F4_73D2_B851_EB85, codes "83773.17") ∷
    (codes "\"a\"\"b\"0#[Red]#-", 0xC118_9278_0000_0000, codes "-ab402590-") ∷
    (codes ";-[$-409]000?.??!", 0x40F3_70BA_BEAB_367A, codes "") ∷
    (codes "€#,##0.00###\"µ\";[<=0]00000.?\"x\";[>1])00,#.00##+", 0x412E_8480_0000_0000, codes "€1,000,000.00µ") ∷
    (codes "General;-General", 0xBFCC_28F5_C28F_5C29, codes "-0.22") ∷
    (codes "_(£* #,##0_);_(£* (#,##0);_(£* \"-\"??_);_(@_)", 0xBFC9_9999_9999_999A, codes " £(0)") ∷
    (codes "^0000.0[$-409];\"t\"", 0x40ED_10EF_53F7_CED9, codes "^59527.5") ∷ [])
unfolding decimal_of of_15_digits magnitude places places_up_to last_digits digits quotients of_bits of_fields odd lt le eq ne div mul sub add neg sum round units size to_unsigned of_int round_with float_with_sign parse_float_on_literals
known_texts_12 = (refl, (refl, (refl, (refl, (refl, (refl, (refl, (refl, tt))))))))
