-- What Excel shows under codes with a fraction, so that a wrong rule in the definitions does not check.
use Rattle.std.proofs.Common.{◌≡◌, ℕ, List, ◌∷◌, [], map, refl}
use Rattle.std.specs.Prelude.{codes}
use Rattle.std.specs.Float.{float_with_sign, round_with}
use Rattle.std.specs.Float.Ieee.{of_bits, of_fields, odd, lt, le, eq, div, mul, sub, add, neg, sum, round, units, size, to_unsigned, of_int}
use Rattle.xls_rounding.specs.Fractions.{places_up_to, places, magnitude}
use Rattle.xls_rounding.specs.Rounding.{of_15_digits, decimal_of}
use Rattle.xls_number_formats.specs.Grammar.{items}
use Rattle.xls_shown_fractions.specs.Ratios.{quotients}
use Rattle.xls_shown_fractions.specs.Texts.{fraction_text}

-- what a code shows of a double's size
abbrev shown : List ℕ × ℕ → List ℕ
shown row = fraction_text (items row.0) row.1

-- codes and doubles, as Excel shows them
pub known_texts_1 : map shown ((codes "|#\\:#/#|", 0x4037_C000_0000_0000) ∷
    (codes "|#\\:#/#|", 0x3FE8_0000_0000_0000) ∷
    (codes "|#\\:#/#|", 0x0000_0000_0000_0000) ∷
    (codes "|#\\:#/#|", 0x3FF0_0000_0000_0000) ∷
    (codes "|#-#-#\\:#/#|", 0x4037_C000_0000_0000) ∷
    (codes "|#-#-#\\:#/#|", 0x3FE8_0000_0000_0000) ∷
    (codes "|#-#-#\\:#/#|", 0x0000_0000_0000_0000) ∷
    (codes "|#-#-#\\:#/#|", 0x3FF0_0000_0000_0000) ∷ [])
    ≡ codes "|23:3/4|" ∷
    codes "|3/4|" ∷
    codes "|0|" ∷
    codes "|1|" ∷
    codes "|-2-3:3/4|" ∷
    codes "|--3/4|" ∷
    codes "|--0|" ∷
    codes "|--1|" ∷ []
unfolding decimal_of of_15_digits magnitude places places_up_to quotients of_bits of_fields odd lt le eq div mul sub add neg sum round units size to_unsigned of_int round_with float_with_sign
known_texts_1 = refl

-- codes and doubles, as Excel shows them
pub known_texts_2 : map shown ((codes "|#\\:#=/=#|", 0x4037_C000_0000_0000) ∷
    (codes "|#\\:#=/=#|", 0x0000_0000_0000_0000) ∷
    (codes "|#\\:#=/=#|", 0x3FF0_0000_0000_0000) ∷
    (codes "|#\\:#=/=?|", 0x4037_C000_0000_0000) ∷
    (codes "|#\\:#=/=?|", 0x0000_0000_0000_0000) ∷
    (codes "|#\\:#=/=?|", 0x3FF0_0000_0000_0000) ∷
    (codes "|#\\:#=/=0|", 0x4037_C000_0000_0000) ∷
    (codes "|#\\:#=/=0|", 0x0000_0000_0000_0000) ∷ [])
    ≡ codes "|23:3=/=4|" ∷
    codes "|0|" ∷
    codes "|1|" ∷
    codes "|23:3=/=4|" ∷
    codes "|0      |" ∷
    codes "|1      |" ∷
    codes "|23:3=/=4|" ∷
    codes "|0|" ∷ []
unfolding decimal_of of_15_digits magnitude places places_up_to quotients of_bits of_fields odd lt le eq div mul sub add neg sum round units size to_unsigned of_int round_with float_with_sign
known_texts_2 = refl

-- codes and doubles, as Excel shows them
pub known_texts_3 : map shown ((codes "|#\\:#=/=0|", 0x3FF0_0000_0000_0000) ∷
    (codes "|#\\:? ?=/=#|", 0x4037_C000_0000_0000) ∷
    (codes "|#\\:? ?=/=#|", 0x0000_0000_0000_0000) ∷
    (codes "|#\\:? ?=/=#|", 0x3FF0_0000_0000_0000) ∷
    (codes "|#\\:? ?=/=?|", 0x4037_C000_0000_0000) ∷
    (codes "|#\\:? ?=/=?|", 0x0000_0000_0000_0000) ∷
    (codes "|#\\:? ?=/=?|", 0x3FF0_0000_0000_0000) ∷
    (codes "|#\\:? ?#/#|", 0x4037_C000_0000_0000) ∷ [])
    ≡ codes "|1|" ∷
    codes "|2:3 3=/=4|" ∷
    codes "|:0      |" ∷
    codes "|:1      |" ∷
    codes "|2:3 3=/=4|" ∷
    codes "|:0      |" ∷
    codes "|:1      |" ∷
    codes "|2:3  3/4|" ∷ []
unfolding decimal_of of_15_digits magnitude places places_up_to quotients of_bits of_fields odd lt le eq div mul sub add neg sum round units size to_unsigned of_int round_with float_with_sign
known_texts_3 = refl

-- codes and doubles, as Excel shows them
pub known_texts_4 : map shown ((codes "|#\\:? ?0#/000", 0x4037_C000_0000_0000) ∷
    (codes "|?\\:?0=/=#|", 0x3FE8_0000_0000_0000) ∷
    (codes "|#\\:? ?0#/000", 0x0000_0000_0000_0000) ∷
    (codes "|#\\:? ?0#/000", 0x3FF0_0000_0000_0000) ∷
    (codes "|#_#/#|", 0x400E_0000_0000_0000) ∷
    (codes "|#_#/#|", 0x3FE8_0000_0000_0000) ∷
    (codes "|#_#/#|", 0x0000_0000_0000_0000) ∷
    (codes "|#_#/#|", 0x3FF0_0000_0000_0000) ∷ [])
    ≡ codes "|2:3  03/004" ∷
    codes "|   3=/=4|" ∷
    codes "|:0  00/001" ∷
    codes "|:1  00/001" ∷
    codes "|15 /4|" ∷
    codes "|3 /4|" ∷
    codes "|0 /1|" ∷
    codes "|1 /1|" ∷ []
unfolding decimal_of of_15_digits magnitude places places_up_to quotients of_bits of_fields odd lt le eq div mul sub add neg sum round units size to_unsigned of_int round_with float_with_sign
known_texts_4 = refl

-- codes and doubles, as Excel shows them
pub known_texts_5 : map shown ((codes "|#_#=/=#|", 0x400E_0000_0000_0000) ∷
    (codes "|#_#=/=#|", 0x0000_0000_0000_0000) ∷
    (codes "|#_#=/=#|", 0x3FF0_0000_0000_0000) ∷
    (codes "|#_#=/=?|", 0x400E_0000_0000_0000) ∷
    (codes "|#_#=/=?|", 0x0000_0000_0000_0000) ∷
    (codes "|#_#=/=?|", 0x3FF0_0000_0000_0000) ∷
    (codes "|#_#=/=0|", 0x400E_0000_0000_0000) ∷
    (codes "|#_#=/=0|", 0x0000_0000_0000_0000) ∷ [])
    ≡ codes "|15 =/=4|" ∷
    codes "|0 =/=1|" ∷
    codes "|1 =/=1|" ∷
    codes "|15 =/=4|" ∷
    codes "|0 =/=1|" ∷
    codes "|1 =/=1|" ∷
    codes "|15 =/=4|" ∷
    codes "|0 =/=1|" ∷ []
unfolding decimal_of of_15_digits magnitude places places_up_to quotients of_bits of_fields odd lt le eq div mul sub add neg sum round units size to_unsigned of_int round_with float_with_sign
known_texts_5 = refl

-- codes and doubles, as Excel shows them
pub known_texts_6 : map shown ((codes "|#_#=/=0|", 0x3FF0_0000_0000_0000) ∷
    (codes "|#_?=/=#|", 0x400E_0000_0000_0000) ∷
    (codes "|#_?=/=#|", 0x0000_0000_0000_0000) ∷
    (codes "|#_?=/=#|", 0x3FF0_0000_0000_0000) ∷
    (codes "|#_?=/=?|", 0x400E_0000_0000_0000) ∷
    (codes "|#_?=/=?|", 0x0000_0000_0000_0000) ∷
    (codes "|#_?=/=?|", 0x3FF0_0000_0000_0000) ∷
    (codes "|#\\:?=/=#|", 0x0000_0000_0000_0000) ∷ [])
    ≡ codes "|1 =/=1|" ∷
    codes "|15 =/=4|" ∷
    codes "|0 =/=1|" ∷
    codes "|1 =/=1|" ∷
    codes "|15 =/=4|" ∷
    codes "|0 =/=1|" ∷
    codes "|1 =/=1|" ∷
    codes "|0      |" ∷ []
unfolding decimal_of of_15_digits magnitude places places_up_to quotients of_bits of_fields odd lt le eq div mul sub add neg sum round units size to_unsigned of_int round_with float_with_sign
known_texts_6 = refl

-- codes and doubles, as Excel shows them
pub known_texts_7 : map shown ((codes "|#\\:?=/=?|", 0x0000_0000_0000_0000) ∷
    (codes "|#\\:?=/=0|", 0x0000_0000_0000_0000) ∷
    (codes "|#\\:0=/=#|", 0x0000_0000_0000_0000) ∷
    (codes "|#\\:0=/=?|", 0x0000_0000_0000_0000) ∷
    (codes "|#\\:0=/=0|", 0x0000_0000_0000_0000) ∷
    (codes "|?\\:#=/=#|", 0x0000_0000_0000_0000) ∷
    (codes "|?\\:#=/=?|", 0x0000_0000_0000_0000) ∷
    (codes "|?\\:#=/=0|", 0x0000_0000_0000_0000) ∷ [])
    ≡ codes "|0      |" ∷
    codes "|0      |" ∷
    codes "|0=/=1|" ∷
    codes "|0=/=1|" ∷
    codes "|0=/=1|" ∷
    codes "|0      |" ∷
    codes "|0      |" ∷
    codes "|0      |" ∷ []
unfolding decimal_of of_15_digits magnitude places places_up_to quotients of_bits of_fields odd lt le eq div mul sub add neg sum round units size to_unsigned of_int round_with float_with_sign
known_texts_7 = refl

-- codes and doubles, as Excel shows them
pub known_texts_8 : map shown ((codes "|?\\:?=/=#|", 0x0000_0000_0000_0000) ∷
    (codes "|?\\:?=/=?|", 0x0000_0000_0000_0000) ∷
    (codes "|?\\:?=/=0|", 0x0000_0000_0000_0000) ∷
    (codes "|?\\:0=/=#|", 0x0000_0000_0000_0000) ∷
    (codes "|?\\:0=/=?|", 0x0000_0000_0000_0000) ∷
    (codes "|?\\:0=/=0|", 0x0000_0000_0000_0000) ∷
    (codes "|0\\:#=/=#|", 0x0000_0000_0000_0000) ∷
    (codes "|0\\:#=/=?|", 0x0000_0000_0000_0000) ∷ [])
    ≡ codes "|0      |" ∷
    codes "|0      |" ∷
    codes "|0      |" ∷
    codes "|0:0=/=1|" ∷
    codes "|0:0=/=1|" ∷
    codes "|0:0=/=1|" ∷
    codes "|0|" ∷
    codes "|0      |" ∷ []
unfolding decimal_of of_15_digits magnitude places places_up_to quotients of_bits of_fields odd lt le eq div mul sub add neg sum round units size to_unsigned of_int round_with float_with_sign
known_texts_8 = refl

-- codes and doubles, as Excel shows them
pub known_texts_9 : map shown ((codes "|0\\:#=/=0|", 0x0000_0000_0000_0000) ∷
    (codes "|0\\:?=/=#|", 0x0000_0000_0000_0000) ∷
    (codes "|0\\:?=/=?|", 0x0000_0000_0000_0000) ∷
    (codes "|0\\:?=/=0|", 0x0000_0000_0000_0000) ∷
    (codes "|0\\:0=/=#|", 0x0000_0000_0000_0000) ∷
    (codes "|0\\:0=/=?|", 0x0000_0000_0000_0000) ∷
    (codes "|0\\:0=/=0|", 0x0000_0000_0000_0000) ∷
    (codes "|#\\:#=/=#|", 0x3FE8_0000_0000_0000) ∷ [])
    ≡ codes "|0|" ∷
    codes "|0      |" ∷
    codes "|0      |" ∷
    codes "|0      |" ∷
    codes "|0:0=/=1|" ∷
    codes "|0:0=/=1|" ∷
    codes "|0:0=/=1|" ∷
    codes "|3=/=4|" ∷ []
unfolding decimal_of of_15_digits magnitude places places_up_to quotients of_bits of_fields odd lt le eq div mul sub add neg sum round units size to_unsigned of_int round_with float_with_sign
known_texts_9 = refl

-- codes and doubles, as Excel shows them
pub known_texts_10 : map shown ((codes "|#\\:#=/=?|", 0x3FE8_0000_0000_0000) ∷
    (codes "|#\\:#=/=0|", 0x3FE8_0000_0000_0000) ∷
    (codes "|#\\:?=/=#|", 0x3FE8_0000_0000_0000) ∷
    (codes "|#\\:?=/=?|", 0x3FE8_0000_0000_0000) ∷
    (codes "|#\\:?=/=0|", 0x3FE8_0000_0000_0000) ∷
    (codes "|#\\:0=/=#|", 0x3FE8_0000_0000_0000) ∷
    (codes "|#\\:0=/=?|", 0x3FE8_0000_0000_0000) ∷
    (codes "|#\\:0=/=0|", 0x3FE8_0000_0000_0000) ∷ [])
    ≡ codes "|3=/=4|" ∷
    codes "|3=/=4|" ∷
    codes "| 3=/=4|" ∷
    codes "| 3=/=4|" ∷
    codes "| 3=/=4|" ∷
    codes "|3=/=4|" ∷
    codes "|3=/=4|" ∷
    codes "|3=/=4|" ∷ []
unfolding decimal_of of_15_digits magnitude places places_up_to quotients of_bits of_fields odd lt le eq div mul sub add neg sum round units size to_unsigned of_int round_with float_with_sign
known_texts_10 = refl

-- codes and doubles, as Excel shows them
pub known_texts_11 : map shown ((codes "|?\\:#=/=#|", 0x3FE8_0000_0000_0000) ∷
    (codes "|?\\:#=/=?|", 0x3FE8_0000_0000_0000) ∷
    (codes "|?\\:#=/=0|", 0x3FE8_0000_0000_0000) ∷
    (codes "|?\\:?=/=#|", 0x3FE8_0000_0000_0000) ∷
    (codes "|?\\:?=/=?|", 0x3FE8_0000_0000_0000) ∷
    (codes "|?\\:?=/=0|", 0x3FE8_0000_0000_0000) ∷
    (codes "|?\\:0=/=#|", 0x3FE8_0000_0000_0000) ∷
    (codes "|?\\:0=/=?|", 0x3FE8_0000_0000_0000) ∷ [])
    ≡ codes "|  3=/=4|" ∷
    codes "|  3=/=4|" ∷
    codes "|  3=/=4|" ∷
    codes "|  3=/=4|" ∷
    codes "|  3=/=4|" ∷
    codes "|  3=/=4|" ∷
    codes "|  3=/=4|" ∷
    codes "|  3=/=4|" ∷ []
unfolding decimal_of of_15_digits magnitude places places_up_to quotients of_bits of_fields odd lt le eq div mul sub add neg sum round units size to_unsigned of_int round_with float_with_sign
known_texts_11 = refl

-- codes and doubles, as Excel shows them
pub known_texts_12 : map shown ((codes "|?\\:0=/=0|", 0x3FE8_0000_0000_0000) ∷
    (codes "|0\\:#=/=#|", 0x3FE8_0000_0000_0000) ∷
    (codes "|0\\:#=/=?|", 0x3FE8_0000_0000_0000) ∷
    (codes "|0\\:#=/=0|", 0x3FE8_0000_0000_0000) ∷
    (codes "|0\\:?=/=#|", 0x3FE8_0000_0000_0000) ∷
    (codes "|0\\:?=/=?|", 0x3FE8_0000_0000_0000) ∷
    (codes "|0\\:?=/=0|", 0x3FE8_0000_0000_0000) ∷
    (codes "|0\\:0=/=#|", 0x3FE8_0000_0000_0000) ∷ [])
    ≡ codes "|  3=/=4|" ∷
    codes "|0:3=/=4|" ∷
    codes "|0:3=/=4|" ∷
    codes "|0:3=/=4|" ∷
    codes "|0:3=/=4|" ∷
    codes "|0:3=/=4|" ∷
    codes "|0:3=/=4|" ∷
    codes "|0:3=/=4|" ∷ []
unfolding decimal_of of_15_digits magnitude places places_up_to quotients of_bits of_fields odd lt le eq div mul sub add neg sum round units size to_unsigned of_int round_with float_with_sign
known_texts_12 = refl

-- codes and doubles, as Excel shows them
pub known_texts_13 : map shown ((codes "|0\\:0=/=?|", 0x3FE8_0000_0000_0000) ∷
    (codes "|0\\:0=/=0|", 0x3FE8_0000_0000_0000) ∷
    (codes "|#\\:?=/=#|", 0x3FF0_0000_0000_0000) ∷
    (codes "|#\\:?=/=?|", 0x3FF0_0000_0000_0000) ∷
    (codes "|#\\:?=/=0|", 0x3FF0_0000_0000_0000) ∷
    (codes "|#\\:0=/=#|", 0x3FF0_0000_0000_0000) ∷
    (codes "|#\\:0=/=?|", 0x3FF0_0000_0000_0000) ∷
    (codes "|#\\:0=/=0|", 0x3FF0_0000_0000_0000) ∷ [])
    ≡ codes "|0:3=/=4|" ∷
    codes "|0:3=/=4|" ∷
    codes "|1      |" ∷
    codes "|1      |" ∷
    codes "|1      |" ∷
    codes "|1:0=/=1|" ∷
    codes "|1:0=/=1|" ∷
    codes "|1:0=/=1|" ∷ []
unfolding decimal_of of_15_digits magnitude places places_up_to quotients of_bits of_fields odd lt le eq div mul sub add neg sum round units size to_unsigned of_int round_with float_with_sign
known_texts_13 = refl

-- codes and doubles, as Excel shows them
pub known_texts_14 : map shown ((codes "|?\\:#=/=#|", 0x3FF0_0000_0000_0000) ∷
    (codes "|?\\:#=/=?|", 0x3FF0_0000_0000_0000) ∷
    (codes "|?\\:#=/=0|", 0x3FF0_0000_0000_0000) ∷
    (codes "|?\\:?=/=#|", 0x3FF0_0000_0000_0000) ∷
    (codes "|?\\:?=/=?|", 0x3FF0_0000_0000_0000) ∷
    (codes "|?\\:?=/=0|", 0x3FF0_0000_0000_0000) ∷
    (codes "|?\\:0=/=#|", 0x3FF0_0000_0000_0000) ∷
    (codes "|?\\:0=/=?|", 0x3FF0_0000_0000_0000) ∷ [])
    ≡ codes "|1      |" ∷
    codes "|1      |" ∷
    codes "|1      |" ∷
    codes "|1      |" ∷
    codes "|1      |" ∷
    codes "|1      |" ∷
    codes "|1:0=/=1|" ∷
    codes "|1:0=/=1|" ∷ []
unfolding decimal_of of_15_digits magnitude places places_up_to quotients of_bits of_fields odd lt le eq div mul sub add neg sum round units size to_unsigned of_int round_with float_with_sign
known_texts_14 = refl

-- codes and doubles, as Excel shows them
pub known_texts_15 : map shown ((codes "|?\\:0=/=0|", 0x3FF0_0000_0000_0000) ∷
    (codes "|0\\:#=/=#|", 0x3FF0_0000_0000_0000) ∷
    (codes "|0\\:#=/=?|", 0x3FF0_0000_0000_0000) ∷
    (codes "|0\\:#=/=0|", 0x3FF0_0000_0000_0000) ∷
    (codes "|0\\:?=/=#|", 0x3FF0_0000_0000_0000) ∷
    (codes "|0\\:?=/=?|", 0x3FF0_0000_0000_0000) ∷
    (codes "|0\\:?=/=0|", 0x3FF0_0000_0000_0000) ∷
    (codes "|0\\:0=/=#|", 0x3FF0_0000_0000_0000) ∷ [])
    ≡ codes "|1:0=/=1|" ∷
    codes "|1|" ∷
    codes "|1      |" ∷
    codes "|1|" ∷
    codes "|1      |" ∷
    codes "|1      |" ∷
    codes "|1      |" ∷
    codes "|1:0=/=1|" ∷ []
unfolding decimal_of of_15_digits magnitude places places_up_to quotients of_bits of_fields odd lt le eq div mul sub add neg sum round units size to_unsigned of_int round_with float_with_sign
known_texts_15 = refl

-- codes and doubles, as Excel shows them
pub known_texts_16 : map shown ((codes "|0\\:0=/=?|", 0x3FF0_0000_0000_0000) ∷
    (codes "|0\\:0=/=0|", 0x3FF0_0000_0000_0000) ∷
    (codes "# ??/16", 0x3FC8_51EB_851E_B852) ∷
    (codes "#\\ ??/?????????", 0x3FB1_EB85_1EB8_51EC) ∷
    (codes "# ?/8", 0x3FE5_CF9A_1C05_1833) ∷
    (codes "# ?/2", 0x3FF0_51EB_851E_B852) ∷
    (codes "# ?/?", 0x3FEA_9649_DEE2_B4DB) ∷
    (codes "# ??/100", 0x3FE0_51EB_851E_B852) ∷ [])
    ≡ codes "|1:0=/=1|" ∷
    codes "|1:0=/=1|" ∷
    codes "  3/16" ∷
    codes "  7/100      " ∷
    codes " 5/8" ∷
    codes "1    " ∷
    codes " 5/6" ∷
    codes " 51/100" ∷ []
unfolding decimal_of of_15_digits magnitude places places_up_to quotients of_bits of_fields odd lt le eq div mul sub add neg sum round units size to_unsigned of_int round_with float_with_sign
known_texts_16 = refl

-- codes and doubles, as Excel shows them
pub known_texts_17 : map shown ((codes "# ???/???", 0x3FDA_E147_AE14_7AE1) ∷
    (codes "# ??/100", 0x3FC1_D4B2_4EF7_15A7) ∷
    (codes "# ??/16", 0x3FCF_3438_0A30_65E4) ∷
    (codes "#\\ ??/?????????", 0x3FE8_F5C2_8F5C_28F6) ∷
    (codes "# ?/4", 0x3FCE_B851_EB85_1EB8) ∷
    (codes "# ?/8", 0x3FBC_28F5_C28F_5C29) ∷
    (codes "# ??/??", 0x3FEC_28F5_C28F_5C29) ∷
    (codes "# ?/?", 0x3FED_1EB8_51EB_851F) ∷ [])
    ≡ codes "  21/50 " ∷
    codes " 14/100" ∷
    codes "  4/16" ∷
    codes " 39/50       " ∷
    codes " 1/4" ∷
    codes " 1/8" ∷
    codes " 22/25" ∷
    codes "1    " ∷ []
unfolding decimal_of of_15_digits magnitude places places_up_to quotients of_bits of_fields odd lt le eq div mul sub add neg sum round units size to_unsigned of_int round_with float_with_sign
known_texts_17 = refl

-- codes and doubles, as Excel shows them
pub known_texts_18 : map shown ((codes "# ?/4", 0x3FF3_AE14_7AE1_47AE) ∷
    (codes "# ?/8", 0x3FEB_3333_3333_3333) ∷
    (codes "# ??/100", 0x3FE0_A3D7_0A3D_70A4) ∷
    (codes "# ??/??", 0x3FD1_D4B2_4EF7_15A7) ∷
    (codes "# ?/?", 0x3FDC_0518_32F1_FD74) ∷
    (codes "# ??/100", 0x3FE1_EB85_1EB8_51EC) ∷
    (codes "# ?/2", 0x3FF1_EB85_1EB8_51EC) ∷
    (codes "#\\ ??/?????????", 0x3FEC_28F5_C28F_5C29) ∷ [])
    ≡ codes "1 1/4" ∷
    codes " 7/8" ∷
    codes " 52/100" ∷
    codes " 17/61" ∷
    codes " 4/9" ∷
    codes " 56/100" ∷
    codes "1    " ∷
    codes " 22/25       " ∷ []
unfolding decimal_of of_15_digits magnitude places places_up_to quotients of_bits of_fields odd lt le eq div mul sub add neg sum round units size to_unsigned of_int round_with float_with_sign
known_texts_18 = refl

-- codes and doubles, as Excel shows them
pub known_texts_19 : map shown ((codes "# ???/???", 0x3FE9_47AE_147A_E148) ∷
    (codes "# ?/4", 0x3FDD_EE2B_4DB1_08EA) ∷
    (codes "# ?/8", 0x3FEA_8F5C_28F5_C28F) ∷
    (codes "#\\ ??/?????????", 0x3FF0_51EB_851E_B852) ∷
    (codes "# ??/100", 0x3FC0_A3D7_0A3D_70A4) ∷
    (codes "# ?/2", 0x3FD4_B24E_F715_A6D9) ∷
    (codes "# ?/8", 0x3FB8_32F1_FD73_E687) ∷
    (codes "# ??/16", 0x3FE9_47AE_147A_E148) ∷ [])
    ≡ codes "  79/100" ∷
    codes " 2/4" ∷
    codes " 7/8" ∷
    codes "1  1/50       " ∷
    codes " 13/100" ∷
    codes " 1/2" ∷
    codes " 1/8" ∷
    codes " 13/16" ∷ []
unfolding decimal_of of_15_digits magnitude places places_up_to quotients of_bits of_fields odd lt le eq div mul sub add neg sum round units size to_unsigned of_int round_with float_with_sign
known_texts_19 = refl

-- codes and doubles, as Excel shows them
pub known_texts_20 : map shown ((codes "# ?/4", 0x3FD1_D4B2_4EF7_15A7) ∷
    (codes "# ?/4", 0x3FE3_D70A_3D70_A3D7) ∷
    (codes "# ?/?", 0x3FD1_47AE_147A_E148) ∷
    (codes "#\\ ??/?????????", 0x3FAE_B851_EB85_1EB8) ∷
    (codes "# ?/10", 0x3FC5_A6D8_8475_2C94) ∷
    (codes "# ??/100", 0x3FC9_9999_9999_999A) ∷
    (codes "# ??/100", 0x3FE1_47AE_147A_E148) ∷
    (codes "# ?/4", 0x3FC0_A3D7_0A3D_70A4) ∷ [])
    ≡ codes " 1/4" ∷
    codes " 2/4" ∷
    codes " 1/4" ∷
    codes "  3/50       " ∷
    codes " 2/10" ∷
    codes " 20/100" ∷
    codes " 54/100" ∷
    codes " 1/4" ∷ []
unfolding decimal_of of_15_digits magnitude places places_up_to quotients of_bits of_fields odd lt le eq div mul sub add neg sum round units size to_unsigned of_int round_with float_with_sign
known_texts_20 = refl

-- codes and doubles, as Excel shows them
pub known_texts_21 : map shown ((codes "#\\ ??/?????????", 0x3FE8_51EB_851E_B852) ∷
    (codes "# ?/8", 0x3FF0_F5C2_8F5C_28F6) ∷
    (codes "# ?/4", 0x3FEF_AE14_7AE1_47AE) ∷
    (codes "# ???/???", 0x3FF2_8C19_78FE_B9F3) ∷
    (codes "# ??/16", 0x3FC5_A6D8_8475_2C94) ∷
    (codes "# ??/100", 0x3FF3_851E_B851_EB85) ∷
    (codes "# ?/2", 0x3FD5_5555_5555_5555) ∷
    (codes "# ???/???", 0x3FEE_147A_E147_AE14) ∷ [])
    ≡ codes " 19/25       " ∷
    codes "1    " ∷
    codes "1    " ∷
    codes "1  32/201" ∷
    codes "  3/16" ∷
    codes "1 22/100" ∷
    codes " 1/2" ∷
    codes "  47/50 " ∷ []
unfolding decimal_of of_15_digits magnitude places places_up_to quotients of_bits of_fields odd lt le eq div mul sub add neg sum round units size to_unsigned of_int round_with float_with_sign
known_texts_21 = refl

-- codes and doubles, as Excel shows them
pub known_texts_22 : map shown ((codes "#\\ ??/?????????", 0x3FDC_F9A1_C051_832F) ∷
    (codes "#\\ ??/?????????", 0x3FCF_D73E_6870_1461) ∷
    (codes "# ?/4", 0x3FE5_C28F_5C28_F5C3) ∷
    (codes "# ?/4", 0x3FC8_51EB_851E_B852) ∷
    (codes "# ?/10", 0x3FB8_32F1_FD73_E687) ∷
    (codes "# ??/??", 0x3FDD_70A3_D70A_3D71) ∷
    (codes "# ??/??", 0x3FDA_6D88_4752_C93C) ∷
    (codes "# ?/4", 0x3FE0_51EB_851E_B852) ∷ [])
    ≡ codes " 91/201      " ∷
    codes " 50/201      " ∷
    codes " 3/4" ∷
    codes " 1/4" ∷
    codes " 1/10" ∷
    codes " 23/50" ∷
    codes " 19/46" ∷
    codes " 2/4" ∷ []
unfolding decimal_of of_15_digits magnitude places places_up_to quotients of_bits of_fields odd lt le eq div mul sub add neg sum round units size to_unsigned of_int round_with float_with_sign
known_texts_22 = refl

-- codes and doubles, as Excel shows them
pub known_texts_23 : map shown ((codes "#\\ ??/?????????", 0x3FE2_8F5C_28F5_C28F) ∷
    (codes "#\\ ??/?????????", 0x3FD8_32F1_FD73_E687) ∷
    (codes "#\\ ??/?????????", 0x3FD8_51EB_851E_B852) ∷
    (codes "# ??/100", 0x3F84_7AE1_47AE_147B) ∷
    (codes "# ?/?", 0x3FF3_4380_A306_5E40) ∷
    (codes "# ?/8", 0x3FC9_78FE_B9F3_4381) ∷
    (codes "# ??/??", 0x3FE0_65E3_FAE7_CD0E) ∷
    (codes "# ?/2", 0x3FD0_A3D7_0A3D_70A4) ∷ [])
    ≡ codes " 29/50       " ∷
    codes " 76/201      " ∷
    codes " 19/50       " ∷
    codes "  1/100" ∷
    codes "1 1/5" ∷
    codes " 2/8" ∷
    codes " 41/80" ∷
    codes " 1/2" ∷ []
unfolding decimal_of of_15_digits magnitude places places_up_to quotients of_bits of_fields odd lt le eq div mul sub add neg sum round units size to_unsigned of_int round_with float_with_sign
known_texts_23 = refl

-- codes and doubles, as Excel shows them
pub known_texts_24 : map shown ((codes "# ??/100", 0x3FDE_B851_EB85_1EB8) ∷
    (codes "# ?/8", 0x3FF3_0A3D_70A3_D70A) ∷
    (codes "# ?/10", 0x3FC9_9999_9999_999A) ∷
    (codes "# ??/16", 0x3FF3_4380_A306_5E40) ∷
    (codes "# ?/?", 0x3FE3_6C42_3A96_49DF) ∷
    (codes "# ?/8", 0x3FC3_3333_3333_3333) ∷
    (codes "# ?/10", 0x3FE8_51EB_851E_B852) ∷
    (codes "# ??/100", 0x3FF1_EB85_1EB8_51EC) ∷ [])
    ≡ codes " 48/100" ∷
    codes "1 2/8" ∷
    codes " 2/10" ∷
    codes "1  3/16" ∷
    codes " 3/5" ∷
    codes " 1/8" ∷
    codes " 8/10" ∷
    codes "1 12/100" ∷ []
unfolding decimal_of of_15_digits magnitude places places_up_to quotients of_bits of_fields odd lt le eq div mul sub add neg sum round units size to_unsigned of_int round_with float_with_sign
known_texts_24 = refl

-- codes and doubles, as Excel shows them
pub known_texts_25 : map shown ((codes "# ??/100", 0x3FF4_380A_3065_E3FB) ∷
    (codes "# ?/2", 0x3FD3_D70A_3D70_A3D7) ∷
    (codes "# ??/16", 0x3FF1_EB85_1EB8_51EC) ∷
    (codes "# ?/4", 0x3FCC_28F5_C28F_5C29) ∷
    (codes "# ?/4", 0x3FEC_7F5C_F9A1_C052) ∷
    (codes "# ?/10", 0x3FD1_47AE_147A_E148) ∷
    (codes "# ?/2", 0x3FE6_49DE_E2B4_DB11) ∷
    (codes "# ??/??", 0x3FE5_70A3_D70A_3D71) ∷ [])
    ≡ codes "1 26/100" ∷
    codes " 1/2" ∷
    codes "1  2/16" ∷
    codes " 1/4" ∷
    codes "1    " ∷
    codes " 3/10" ∷
    codes " 1/2" ∷
    codes " 65/97" ∷ []
unfolding decimal_of of_15_digits magnitude places places_up_to quotients of_bits of_fields odd lt le eq div mul sub add neg sum round units size to_unsigned of_int round_with float_with_sign
known_texts_25 = refl

-- codes and doubles, as Excel shows them
pub known_texts_26 : map shown ((codes "# ?/?", 0x3FDE_147A_E147_AE14) ∷
    (codes "# ?/?", 0x3FEA_E147_AE14_7AE1) ∷
    (codes "# ?/8", 0x3FF2_3D70_A3D7_0A3D) ∷
    (codes "# ??/??", 0x3FE6_147A_E147_AE14) ∷
    (codes "# ??/??", 0x3F84_7AE1_47AE_147B) ∷
    (codes "# ???/???", 0x3FF0_0000_0000_0000) ∷
    (codes "# ?/10", 0x3FF3_065E_3FAE_7CD1) ∷
    (codes "# ??/??", 0x3FF3_0A3D_70A3_D70A) ∷ [])
    ≡ codes " 1/2" ∷
    codes " 5/6" ∷
    codes "1 1/8" ∷
    codes " 20/29" ∷
    codes "0      " ∷
    codes "1        " ∷
    codes "1 2/10" ∷
    codes "1 15/79" ∷ []
unfolding decimal_of of_15_digits magnitude places places_up_to quotients of_bits of_fields odd lt le eq div mul sub add neg sum round units size to_unsigned of_int round_with float_with_sign
known_texts_26 = refl

-- codes and doubles, as Excel shows them
pub known_texts_27 : map shown ((codes "#\\ ??/?????????", 0x3FE4_DB10_8EA5_9278) ∷
    (codes "# ??/??", 0x3FE0_A3D7_0A3D_70A4) ∷
    (codes "# ?/?", 0x3FE9_47AE_147A_E148) ∷
    (codes "# ?/2", 0x3FC8_51EB_851E_B852) ∷
    (codes "#\\ ??/?????????", 0x3FE2_3D70_A3D7_0A3D) ∷
    (codes "# ?/2", 0x3FD3_BDC5_69B6_211D) ∷
    (codes "#\\ ??/?????????", 0x3FDA_6D88_4752_C93C) ∷
    (codes "# ?/10", 0x3FE6_B851_EB85_1EB8) ∷ [])
    ≡ codes " 131/201      " ∷
    codes " 13/25" ∷
    codes " 4/5" ∷
    codes "0    " ∷
    codes " 57/100      " ∷
    codes " 1/2" ∷
    codes " 83/201      " ∷
    codes " 7/10" ∷ []
unfolding decimal_of of_15_digits magnitude places places_up_to quotients of_bits of_fields odd lt le eq div mul sub add neg sum round units size to_unsigned of_int round_with float_with_sign
known_texts_27 = refl

-- codes and doubles, as Excel shows them
pub known_texts_28 : map shown ((codes "# ??/??", 0x3FE1_9999_9999_999A) ∷
    (codes "# ?/10", 0x3FDD_EE2B_4DB1_08EA) ∷
    (codes "#\\ ??/?????????", 0x3FED_70A3_D70A_3D71) ∷
    (codes "# ?/10", 0x3FF0_CCCC_CCCC_CCCD) ∷
    (codes "# ???/???", 0x3FE2_E147_AE14_7AE1) ∷
    (codes "# ??/??", 0x3FDE_B851_EB85_1EB8) ∷
    (codes "# ???/???", 0x3FB1_D4B2_4EF7_15A7) ∷
    (codes "# ??/??", 0x3FED_73E6_8701_460D) ∷ [])
    ≡ codes " 11/20" ∷
    codes " 5/10" ∷
    codes " 23/25       " ∷
    codes "1 1/10" ∷
    codes "  59/100" ∷
    codes " 12/25" ∷
    codes "  14/201" ∷
    codes " 81/88" ∷ []
unfolding decimal_of of_15_digits magnitude places places_up_to quotients of_bits of_fields odd lt le eq div mul sub add neg sum round units size to_unsigned of_int round_with float_with_sign
known_texts_28 = refl

-- codes and doubles, as Excel shows them
pub known_texts_29 : map shown ((codes "# ?/2", 0x3FE5_1EB8_51EB_851F) ∷
    (codes "# ?/10", 0x3FE1_47AE_147A_E148) ∷
    (codes "# ?/8", 0x3FED_C28F_5C28_F5C3) ∷
    (codes "# ??/??", 0x3FD5_1EB8_51EB_851F) ∷
    (codes "# ??/100", 0x3FD9_9999_9999_999A) ∷
    (codes "# ?/2", 0x3FAE_B851_EB85_1EB8) ∷
    (codes "# ??/??", 0x3FD1_EB85_1EB8_51EC) ∷
    (codes "# ?/2", 0x3FEF_0A3D_70A3_D70A) ∷ [])
    ≡ codes " 1/2" ∷
    codes " 5/10" ∷
    codes " 7/8" ∷
    codes "  1/3 " ∷
    codes " 40/100" ∷
    codes "0    " ∷
    codes "  7/25" ∷
    codes "1    " ∷ []
unfolding decimal_of of_15_digits magnitude places places_up_to quotients of_bits of_fields odd lt le eq div mul sub add neg sum round units size to_unsigned of_int round_with float_with_sign
known_texts_29 = refl

-- codes and doubles, as Excel shows them
pub known_texts_30 : map shown ((codes "# ??/100", 0x3FF2_4EF7_15A6_D884) ∷
    (codes "# ?/?", 0x3FDB_851E_B851_EB85) ∷
    (codes "# ??/100", 0x3FEF_5C28_F5C2_8F5C) ∷
    (codes "# ?/2", 0x3FCC_0518_32F1_FD74) ∷
    (codes "# ?/10", 0x3FDD_70A3_D70A_3D71) ∷
    (codes "# ??/16", 0x3FE9_9999_9999_999A) ∷
    (codes "#\\ ??/?????????", 0x3FA4_7AE1_47AE_147B) ∷
    (codes "# ???/???", 0x3FC8_51EB_851E_B852) ∷ [])
    ≡ codes "1 14/100" ∷
    codes " 3/7" ∷
    codes " 98/100" ∷
    codes "0    " ∷
    codes " 5/10" ∷
    codes " 13/16" ∷
    codes "  1/25       " ∷
    codes "  19/100" ∷ []
unfolding decimal_of of_15_digits magnitude places places_up_to quotients of_bits of_fields odd lt le eq div mul sub add neg sum round units size to_unsigned of_int round_with float_with_sign
known_texts_30 = refl

-- codes and doubles, as Excel shows them
pub known_texts_31 : map shown ((codes "# ?/2", 0x3FC3_BDC5_69B6_211D) ∷
    (codes "# ??/??", 0x3FC9_9999_9999_999A) ∷
    (codes "# ?/10", 0x3FA9_9999_9999_999A) ∷
    (codes "# ?/2", 0x3FE3_E687_0146_0CBC) ∷
    (codes "# ?/2", 0x3FED_1EB8_51EB_851F) ∷
    (codes "# ??/??", 0x3FE8_32F1_FD73_E687) ∷
    (codes "# ?/8", 0x3FF0_7AE1_47AE_147B) ∷
    (codes "# ?/4", 0x3FF1_5A6D_8847_52C9) ∷ [])
    ≡ codes "0    " ∷
    codes "  1/5 " ∷
    codes " 1/10" ∷
    codes " 1/2" ∷
    codes "1    " ∷
    codes " 31/41" ∷
    codes "1    " ∷
    codes "1    " ∷ []
unfolding decimal_of of_15_digits magnitude places places_up_to quotients of_bits of_fields odd lt le eq div mul sub add neg sum round units size to_unsigned of_int round_with float_with_sign
known_texts_31 = refl

-- codes and doubles, as Excel shows them
pub known_texts_32 : map shown ((codes "# ??/??", 0x3FD8_32F1_FD73_E687) ∷
    (codes "# ??/16", 0x3FE0_51EB_851E_B852) ∷
    (codes "#\\ ??/?????????", 0x3FE5_70A3_D70A_3D71) ∷
    (codes "# ?/10", 0x3FEB_108E_A592_77B9) ∷
    (codes "# ??/??", 0x3FF2_8F5C_28F5_C28F) ∷
    (codes "# ?/2", 0x3FF3_851E_B851_EB85) ∷
    (codes "# ?/2", 0x3FDC_F9A1_C051_832F) ∷
    (codes "# ???/???", 0x3FE8_0000_0000_0000) ∷ [])
    ≡ codes " 31/82" ∷
    codes "  8/16" ∷
    codes " 67/100      " ∷
    codes " 8/10" ∷
    codes "1  4/25" ∷
    codes "1    " ∷
    codes " 1/2" ∷
    codes "   3/4  " ∷ []
unfolding decimal_of of_15_digits magnitude places places_up_to quotients of_bits of_fields odd lt le eq div mul sub add neg sum round units size to_unsigned of_int round_with float_with_sign
known_texts_32 = refl

-- codes and doubles, as Excel shows them
pub known_texts_33 : map shown ((codes "# ??/??", 0x3FDB_108E_A592_77B9) ∷
    (codes "# ?/8", 0x3FF2_11D4_B24E_F716) ∷
    (codes "# ???/???", 0x3FE1_9999_9999_999A) ∷
    (codes "#\\ ??/?????????", 0x3FC2_77B8_AD36_C424) ∷
    (codes "# ??/16", 0x3FD5_5555_5555_5555) ∷
    (codes "# ?/4", 0x3FF3_3333_3333_3333) ∷
    (codes "# ?/8", 0x3FE8_F5C2_8F5C_28F6) ∷
    (codes "# ??/??", 0x3FED_1EB8_51EB_851F) ∷ [])
    ≡ codes " 11/26" ∷
    codes "1 1/8" ∷
    codes "  11/20 " ∷
    codes " 29/201      " ∷
    codes "  5/16" ∷
    codes "1 1/4" ∷
    codes " 6/8" ∷
    codes " 81/89" ∷ []
unfolding decimal_of of_15_digits magnitude places places_up_to quotients of_bits of_fields odd lt le eq div mul sub add neg sum round units size to_unsigned of_int round_with float_with_sign
known_texts_33 = refl

-- codes and doubles, as Excel shows them
pub known_texts_34 : map shown ((codes "# ?/8", 0x3FEE_B851_EB85_1EB8) ∷
    (codes "# ?/10", 0x3FE8_0000_0000_0000) ∷
    (codes "# ?/2", 0x3FD1_47AE_147A_E148) ∷
    (codes "# ?/10", 0x3FEB_851E_B851_EB85) ∷
    (codes "# ???/???", 0x3FEF_0A3D_70A3_D70A) ∷
    (codes "# ??/100", 0x3FC0_8EA5_9277_B8AD) ∷
    (codes "# ?/4", 0x3FE6_147A_E147_AE14) ∷
    (codes "# ?/4", 0x3FD4_B24E_F715_A6D9) ∷ [])
    ≡ codes "1    " ∷
    codes " 8/10" ∷
    codes " 1/2" ∷
    codes " 9/10" ∷
    codes "  97/100" ∷
    codes " 13/100" ∷
    codes " 3/4" ∷
    codes " 1/4" ∷ []
unfolding decimal_of of_15_digits magnitude places places_up_to quotients of_bits of_fields odd lt le eq div mul sub add neg sum round units size to_unsigned of_int round_with float_with_sign
known_texts_34 = refl

-- codes and doubles, as Excel shows them
pub known_texts_35 : map shown ((codes "# ??/100", 0x3FBD_4B24_EF71_5A6E) ∷
    (codes "# ?/?", 0x3FC4_7AE1_47AE_147B) ∷
    (codes "# ?/?", 0x3F94_60CB_C7F5_CF9A) ∷
    (codes "# ?/2", 0x3FE0_65E3_FAE7_CD0E) ∷
    (codes "# ?/2", 0x3FE7_AE14_7AE1_47AE) ∷
    (codes "# ?/10", 0x3FF3_D70A_3D70_A3D7) ∷
    (codes "# ??/??", 0x3FF3_851E_B851_EB85) ∷
    (codes "# ?/?", 0x3FD6_9B62_11D4_B24F) ∷ [])
    ≡ codes " 11/100" ∷
    codes " 1/6" ∷
    codes "0    " ∷
    codes " 1/2" ∷
    codes " 1/2" ∷
    codes "1 2/10" ∷
    codes "1 11/50" ∷
    codes " 1/3" ∷ []
unfolding decimal_of of_15_digits magnitude places places_up_to quotients of_bits of_fields odd lt le eq div mul sub add neg sum round units size to_unsigned of_int round_with float_with_sign
known_texts_35 = refl

-- codes and doubles, as Excel shows them
pub known_texts_36 : map shown ((codes "# ??/16", 0x3FEB_851E_B851_EB85) ∷
    (codes "# ?/10", 0x3FC1_EB85_1EB8_51EC) ∷
    (codes "#\\ ??/?????????", 0x3FF3_3333_3333_3333) ∷
    (codes "# ?/8", 0x3FB7_0A3D_70A3_D70A) ∷
    (codes "# ?/8", 0x3F84_60CB_C7F5_CF9A) ∷
    (codes "# ?/4", 0x3FBD_4B24_EF71_5A6E) ∷
    (codes "# ?/2", 0x3FBC_28F5_C28F_5C29) ∷
    (codes "# ??/16", 0x3FCA_E147_AE14_7AE1) ∷ [])
    ≡ codes " 14/16" ∷
    codes " 1/10" ∷
    codes "1  1/5        " ∷
    codes " 1/8" ∷
    codes "0    " ∷
    codes "0    " ∷
    codes "0    " ∷
    codes "  3/16" ∷ []
unfolding decimal_of of_15_digits magnitude places places_up_to quotients of_bits of_fields odd lt le eq div mul sub add neg sum round units size to_unsigned of_int round_with float_with_sign
known_texts_36 = refl

-- codes and doubles, as Excel shows them
pub known_texts_37 : map shown ((codes "#\\ ??/?????????", 0x3FDE_B851_EB85_1EB8) ∷
    (codes "# ?/8", 0x3FE8_51EB_851E_B852) ∷
    (codes "# ?/2", 0x3FEF_AE14_7AE1_47AE) ∷
    (codes "# ?/?", 0x3FF0_51EB_851E_B852) ∷
    (codes "# ??/16", 0x3FE5_5555_5555_5555) ∷
    (codes "# ??/100", 0x3FD2_8F5C_28F5_C28F) ∷
    (codes "# ??/??", 0x3FF3_065E_3FAE_7CD1) ∷
    (codes "# ???/???", 0x3FDB_851E_B851_EB85) ∷ [])
    ≡ codes " 12/25       " ∷
    codes " 6/8" ∷
    codes "1    " ∷
    codes "1    " ∷
    codes " 11/16" ∷
    codes " 29/100" ∷
    codes "1  7/37" ∷
    codes "  43/100" ∷ []
unfolding decimal_of of_15_digits magnitude places places_up_to quotients of_bits of_fields odd lt le eq div mul sub add neg sum round units size to_unsigned of_int round_with float_with_sign
known_texts_37 = refl

-- codes and doubles, as Excel shows them
pub known_texts_38 : map shown ((codes "# ?/?", 0x3FF3_AE14_7AE1_47AE) ∷
    (codes "# ??/100", 0x3FEB_D70A_3D70_A3D7) ∷
    (codes "# ?/2", 0x3FE3_D70A_3D70_A3D7) ∷
    (codes "# ?/8", 0x3FE3_851E_B851_EB85) ∷
    (codes "# ???/???", 0x3FF0_28F5_C28F_5C29) ∷
    (codes "# ???/???", 0x3FF1_1EB8_51EB_851F) ∷
    (codes "# ?/?", 0x3FE0_1460_CBC7_F5D0) ∷
    (codes "# ??/100", 0x3FD9_78FE_B9F3_4381) ∷ [])
    ≡ codes "1 2/9" ∷
    codes " 87/100" ∷
    codes " 1/2" ∷
    codes " 5/8" ∷
    codes "1   1/100" ∷
    codes "1   7/100" ∷
    codes " 1/2" ∷
    codes " 40/100" ∷ []
unfolding decimal_of of_15_digits magnitude places places_up_to quotients of_bits of_fields odd lt le eq div mul sub add neg sum round units size to_unsigned of_int round_with float_with_sign
known_texts_38 = refl

-- codes and doubles, as Excel shows them
pub known_texts_39 : map shown ((codes "# ??/16", 0x3FF0_A3D7_0A3D_70A4) ∷
    (codes "# ?/4", 0x3FBC_0518_32F1_FD74) ∷
    (codes "# ?/10", 0x3FF1_1EB8_51EB_851F) ∷
    (codes "# ?/?", 0x3FE0_0000_0000_0000) ∷
    (codes "# ??/100", 0x3FEF_AE14_7AE1_47AE) ∷
    (codes "# ?/8", 0x3FD3_BDC5_69B6_211D) ∷
    (codes "# ?/?", 0x3FF3_80A3_065E_3FAE) ∷
    (codes "# ??/100", 0x3FD8_51EB_851E_B852) ∷ [])
    ≡ codes "1  1/16" ∷
    codes "0    " ∷
    codes "1 1/10" ∷
    codes " 1/2" ∷
    codes " 99/100" ∷
    codes " 2/8" ∷
    codes "1 2/9" ∷
    codes " 38/100" ∷ []
unfolding decimal_of of_15_digits magnitude places places_up_to quotients of_bits of_fields odd lt le eq div mul sub add neg sum round units size to_unsigned of_int round_with float_with_sign
known_texts_39 = refl

-- codes and doubles, as Excel shows them
pub known_texts_40 : map shown ((codes "# ??/16", 0x3FDA_3D70_A3D7_0A3D) ∷
    (codes "# ?/4", 0x3F3E_573C_603A_1098) ∷
    (codes "# ???/???", 0x3FED_C28F_5C28_F5C3) ∷
    (codes "# ?/?", 0x3FEB_D70A_3D70_A3D7) ∷
    (codes "# ?/2", 0x3FD7_8FEB_9F34_380A) ∷
    (codes "# ?/?", 0x3FF2_6666_6666_6666) ∷
    (codes "# ??/100", 0x3FCA_E147_AE14_7AE1) ∷
    (codes "# ???/???", 0x3FD0_E028_C197_8FEC) ∷ [])
    ≡ codes "  7/16" ∷
    codes "0    " ∷
    codes "  93/100" ∷
    codes " 7/8" ∷
    codes " 1/2" ∷
    codes "1 1/7" ∷
    codes " 21/100" ∷
    codes "  53/201" ∷ []
unfolding decimal_of of_15_digits magnitude places places_up_to quotients of_bits of_fields odd lt le eq div mul sub add neg sum round units size to_unsigned of_int round_with float_with_sign
known_texts_40 = refl

-- codes and doubles, as Excel shows them
pub known_texts_41 : map shown ((codes "# ?/?", 0x3FDB_108E_A592_77B9) ∷
    (codes "# ?/?", 0x3FD4_60CB_C7F5_CF9A) ∷
    (codes "# ??/100", 0x3FEA_E147_AE14_7AE1) ∷
    (codes "# ?/10", 0x3FD2_8F5C_28F5_C28F) ∷
    (codes "# ??/??", 0x3FC7_0A3D_70A3_D70A) ∷
    (codes "# ?/8", 0x3FEB_D70A_3D70_A3D7) ∷
    (codes "#\\ ??/?????????", 0x3FF1_5A6D_8847_52C9) ∷
    (codes "# ??/100", 0x3FE3_D70A_3D70_A3D7) ∷ [])
    ≡ codes " 3/7" ∷
    codes " 1/3" ∷
    codes " 84/100" ∷
    codes " 3/10" ∷
    codes "  9/50" ∷
    codes " 7/8" ∷
    codes "1 17/201      " ∷
    codes " 62/100" ∷ []
unfolding decimal_of of_15_digits magnitude places places_up_to quotients of_bits of_fields odd lt le eq div mul sub add neg sum round units size to_unsigned of_int round_with float_with_sign
known_texts_41 = refl

-- codes and doubles, as Excel shows them
pub known_texts_42 : map shown ((codes "# ??/??", 0x3FEF_DF3B_645A_1CAC) ∷
    (codes "#\\ ???/???", 0x3FE0_0000_0000_0000) ∷
    (codes "# ?/2", 0x40E6_24FF_FFFF_FFFF) ∷
    (codes "# #/#", 0x4028_B0FC_D324_D5A2) ∷
    (codes "# ??/16", 0x401A_0000_0000_0000) ∷
    (codes "# ?/8", 0x408F_3FFE_F9DB_22D1) ∷
    (codes "0 ?/?", 0x4000_0000_0000_0000) ∷
    (codes "# ?/2", 0x3F40_0E6A_FCCE_1C58) ∷ [])
    ≡ codes "1      " ∷
    codes "   1/2  " ∷
    codes "45352    " ∷
    codes "12 1/3" ∷
    codes "6  8/16" ∷
    codes "1000    " ∷
    codes "2    " ∷
    codes "0    " ∷ []
unfolding decimal_of of_15_digits magnitude places places_up_to quotients of_bits of_fields odd lt le eq div mul sub add neg sum round units size to_unsigned of_int round_with float_with_sign
known_texts_42 = refl

-- codes and doubles, as Excel shows them
pub known_texts_43 : map shown ((codes "?/?", 0x3F70_624D_D2F1_A9FC) ∷
    (codes "#\\ ??/?????????", 0x3FE0_0000_0000_0000) ∷
    (codes "# ?/10", 0x3F40_0E6A_FCCE_1C58) ∷
    (codes "# ??/??", 0x412E_847F_0000_0000) ∷
    (codes "?/?", 0x3FEF_FFF4_0BD5_F718) ∷
    (codes "#/#", 0x3FD3_3333_3333_3333) ∷
    (codes "# ??/16", 0x3FEF_DF3B_645A_1CAC) ∷
    (codes "0\" \"?/?", 0x3FEF_AE14_7AE1_47AE) ∷ [])
    ≡ codes "0/1" ∷
    codes "  1/2        " ∷
    codes "0     " ∷
    codes "999999  1/2 " ∷
    codes "1/1" ∷
    codes "2/7" ∷
    codes "1      " ∷
    codes "1    " ∷ []
unfolding decimal_of of_15_digits magnitude places places_up_to quotients of_bits of_fields odd lt le eq div mul sub add neg sum round units size to_unsigned of_int round_with float_with_sign
known_texts_43 = refl

-- codes and doubles, as Excel shows them
pub known_texts_44 : map shown ((codes "# ?/4", 0x3FD3_3333_3333_3333) ∷
    (codes "0 0/0", 0x3FA7_0A3D_70A3_D70A) ∷
    (codes "#/#", 0x3FEF_FFEB_074A_771D) ∷
    (codes "# ???/???", 0x3FEF_DF3B_645A_1CAC) ∷
    (codes "# ?/8", 0x404D_8000_0000_0000) ∷
    (codes "0\" \"?/?", 0x401A_0000_0000_0000) ∷
    (codes "# #/#", 0x404E_0000_0000_0000) ∷
    (codes "0 0/0", 0x3EE9_E3FE_580F_5494) ∷ [])
    ≡ codes " 1/4" ∷
    codes "0 0/1" ∷
    codes "1/1" ∷
    codes " 249/250" ∷
    codes "59    " ∷
    codes "6 1/2" ∷
    codes "60" ∷
    codes "0 0/1" ∷ []
unfolding decimal_of of_15_digits magnitude places places_up_to quotients of_bits of_fields odd lt le eq div mul sub add neg sum round units size to_unsigned of_int round_with float_with_sign
known_texts_44 = refl

-- codes and doubles, as Excel shows them
pub known_texts_45 : map shown ((codes "0 ?/?", 0x3F40_0E6A_FCCE_1C58) ∷
    (codes "# ??/100", 0x3FF0_0000_0000_0000) ∷
    (codes "# ??/32", 0x3FC0_0000_0000_0000) ∷
    (codes "# ???/???", 0x4059_0000_0000_0000) ∷
    (codes "# ?/?", 0x3F20_2E85_BE11_1841) ∷
    (codes "# ??/32", 0x4028_B0FC_D324_D5A2) ∷
    (codes "# ?/?", 0x3FD2_3D70_A3D7_0A3D) ∷
    (codes "# ?/?", 0x3FE6_6666_6666_6666) ∷ [])
    ≡ codes "0    " ∷
    codes "1       " ∷
    codes "  4/32" ∷
    codes "100        " ∷
    codes "0    " ∷
    codes "12 11/32" ∷
    codes " 2/7" ∷
    codes " 2/3" ∷ []
unfolding decimal_of of_15_digits magnitude places places_up_to quotients of_bits of_fields odd lt le eq div mul sub add neg sum round units size to_unsigned of_int round_with float_with_sign
known_texts_45 = refl

-- codes and doubles, as Excel shows them
pub known_texts_46 : map shown ((codes "# ?/?", 0x3FEC_CCCC_CCCC_CCCD) ∷
    (codes "# ?/?", 0x3FD3_3333_3333_3333) ∷
    (codes "# ?/10", 0x3FF2_6666_6666_6666) ∷
    (codes "# ?/10", 0x3FC3_3333_3333_3333) ∷
    (codes "# ?/?", 0x430C_6BF5_2634_0000) ∷
    (codes "0 #0?/32", 0x42A1_D30C_F4DD_CD82) ∷
    (codes "#/4", 0x3FF1_CD85_6890_39B1) ∷
    (codes "#,##0 ?0/???\" in\"", 0x40CF_C6D8_51EB_851F) ∷ [])
    ≡ codes " 8/9" ∷
    codes " 2/7" ∷
    codes "1 1/10" ∷
    codes " 2/10" ∷
    codes "1000000000000000    " ∷
    codes "9799076572902 24/32" ∷
    codes "4/4" ∷
    codes "16,269 69/100 in" ∷ []
unfolding decimal_of of_15_digits magnitude places places_up_to quotients of_bits of_fields odd lt le eq div mul sub add neg sum round units size to_unsigned of_int round_with float_with_sign
known_texts_46 = refl

-- codes and doubles, as Excel shows them
pub known_texts_47 : map shown ((codes "# ?/2", 0x40C9_AADE_B851_EB85) ∷
    (codes "?#/#", 0x40EA_7B9E_F92F_2B67) ∷
    (codes "0/00", 0x4237_4876_E7FF_FEB8) ∷
    (codes "#\" \"0#/?", 0x40F8_69FF_FDF3_B646) ∷
    (codes "#,##0 ??/???\" in\"", 0x40D9_6AC0_0000_0000) ∷
    (codes "0 0/100", 0x40F2_F690_0000_0000) ∷ [])
    ≡ codes "13141 1/2" ∷
    codes "54237/1" ∷
    codes "100000000000/01" ∷
    codes "100000 00/1" ∷
    codes "26,027        in" ∷
    codes "77673 0/100" ∷ []
unfolding decimal_of of_15_digits magnitude places places_up_to quotients of_bits of_fields odd lt le eq div mul sub add neg sum round units size to_unsigned of_int round_with float_with_sign
known_texts_47 = refl
