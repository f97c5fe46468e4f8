-- What Excel shows under codes with an exponent, so that a wrong rule in the definitions does not check.
use Rattle.std.proofs.Common.{◌≡◌, ℕ, List, ◌∷◌, [], map, refl}
use Rattle.std.specs.Prelude.{codes}
use Rattle.xls_rounding.specs.Fractions.{places_up_to, places, magnitude}
use Rattle.xls_rounding.specs.Rounding.{of_15_digits, decimal_of}
use Rattle.xls_number_formats.specs.Grammar.{items}
use Rattle.xls_shown_numbers.specs.Exponent.{exponent_text}

-- what a code shows of a double's size
abbrev shown : List ℕ × ℕ → List ℕ
shown row = exponent_text (items row.0) (decimal_of row.1)

-- codes and doubles, as Excel shows them
pub known_texts_1 : map shown ((codes "#,##0.00e+00", 0x4009_21F9_F01B_866E) ∷
    (codes "|#,e-#|", 0x40FE_240C_9FBE_76C9) ∷
    (codes "|#e-#,|", 0x40FE_240C_9FBE_76C9) ∷
    (codes "|#%e-#|", 0x40FE_240C_9FBE_76C9) ∷
    (codes "|#e-#%|", 0x40FE_240C_9FBE_76C9) ∷
    (codes "|#|e-|#|", 0x40FE_240C_9FBE_76C9) ∷
    (codes "|#.#|e-|#|", 0x40FE_240C_9FBE_76C9) ∷
    (codes "|####.####|e-|#|", 0x40FE_240C_9FBE_76C9) ∷ [])
    ≡ codes "3.14e+00" ∷
    codes "|1e5|" ∷
    codes "|1e5|" ∷
    codes "|1%e5|" ∷
    codes "|1e5%|" ∷
    codes "|1|e|5|" ∷
    codes "|1.2|e|5|" ∷
    codes "|12.3457|e|4|" ∷ []
unfolding decimal_of of_15_digits magnitude places places_up_to
known_texts_1 = refl

-- codes and doubles, as Excel shows them
pub known_texts_2 : map shown ((codes "|#######.####|e-|#|", 0x40FE_240C_9FBE_76C9) ∷
    (codes "|#,######.####|e-|#|", 0x40FE_240C_9FBE_76C9) ∷
    (codes "|0|e-|0|", 0x40FE_240C_9FBE_76C9) ∷
    (codes "|0.0|e-|0|", 0x40FE_240C_9FBE_76C9) ∷
    (codes "|0000.0000|e-|0|", 0x40FE_240C_9FBE_76C9) ∷
    (codes "|0000000.0000|e-|0|", 0x40FE_240C_9FBE_76C9) ∷
    (codes "|0,000000.0000|e-|0|", 0x40FE_240C_9FBE_76C9) ∷
    (codes "|?|e-|?|", 0x40FE_240C_9FBE_76C9) ∷ [])
    ≡ codes "|123456.789|e|0|" ∷
    codes "|123,456.789|e|0|" ∷
    codes "|1|e|5|" ∷
    codes "|1.2|e|5|" ∷
    codes "|0012.3457|e|4|" ∷
    codes "|0123456.7890|e|0|" ∷
    codes "|0,123,456.7890|e|0|" ∷
    codes "|1|e|5|" ∷ []
unfolding decimal_of of_15_digits magnitude places places_up_to
known_texts_2 = refl

-- codes and doubles, as Excel shows them
pub known_texts_3 : map shown ((codes "|?.?|e-|?|", 0x40FE_240C_9FBE_76C9) ∷
    (codes "|????.????|e-|?|", 0x40FE_240C_9FBE_76C9) ∷
    (codes "|???????.????|e-|?|", 0x40FE_240C_9FBE_76C9) ∷
    (codes "|?,??????.????|e-|?|", 0x40FE_240C_9FBE_76C9) ∷
    (codes "|#,e+#|", 0x40FE_240C_9FBE_76C9) ∷
    (codes "|#e+#,|", 0x40FE_240C_9FBE_76C9) ∷
    (codes "|#%e+#|", 0x40FE_240C_9FBE_76C9) ∷
    (codes "|#e+#%|", 0x40FE_240C_9FBE_76C9) ∷ [])
    ≡ codes "|1.2|e|5|" ∷
    codes "|  12.3457|e|4|" ∷
    codes "| 123456.789 |e|0|" ∷
    codes "|  123,456.789 |e|0|" ∷
    codes "|1e+5|" ∷
    codes "|1e+5|" ∷
    codes "|1%e+5|" ∷
    codes "|1e+5%|" ∷ []
unfolding decimal_of of_15_digits magnitude places places_up_to
known_texts_3 = refl

-- codes and doubles, as Excel shows them
pub known_texts_4 : map shown ((codes "|#|e+|#|", 0x40FE_240C_9FBE_76C9) ∷
    (codes "|#.#|e+|#|", 0x40FE_240C_9FBE_76C9) ∷
    (codes "|####.####|e+|#|", 0x40FE_240C_9FBE_76C9) ∷
    (codes "|#######.####|e+|#|", 0x40FE_240C_9FBE_76C9) ∷
    (codes "|#,######.####|e+|#|", 0x40FE_240C_9FBE_76C9) ∷
    (codes "|0|e+|0|", 0x40FE_240C_9FBE_76C9) ∷
    (codes "|0.0|e+|0|", 0x40FE_240C_9FBE_76C9) ∷
    (codes "|0000.0000|e+|0|", 0x40FE_240C_9FBE_76C9) ∷ [])
    ≡ codes "|1|e|+5|" ∷
    codes "|1.2|e|+5|" ∷
    codes "|12.3457|e|+4|" ∷
    codes "|123456.789|e|+0|" ∷
    codes "|123,456.789|e|+0|" ∷
    codes "|1|e|+5|" ∷
    codes "|1.2|e|+5|" ∷
    codes "|0012.3457|e|+4|" ∷ []
unfolding decimal_of of_15_digits magnitude places places_up_to
known_texts_4 = refl

-- codes and doubles, as Excel shows them
pub known_texts_5 : map shown ((codes "|0000000.0000|e+|0|", 0x40FE_240C_9FBE_76C9) ∷
    (codes "|0,000000.0000|e+|0|", 0x40FE_240C_9FBE_76C9) ∷
    (codes "|?|e+|?|", 0x40FE_240C_9FBE_76C9) ∷
    (codes "|?.?|e+|?|", 0x40FE_240C_9FBE_76C9) ∷
    (codes "|????.????|e+|?|", 0x40FE_240C_9FBE_76C9) ∷
    (codes "|???????.????|e+|?|", 0x40FE_240C_9FBE_76C9) ∷
    (codes "|?,??????.????|e+|?|", 0x40FE_240C_9FBE_76C9) ∷
    (codes "|#.#|E-|#|", 0x40FE_240C_9FBE_76C9) ∷ [])
    ≡ codes "|0123456.7890|e|+0|" ∷
    codes "|0,123,456.7890|e|+0|" ∷
    codes "|1|e|+5|" ∷
    codes "|1.2|e|+5|" ∷
    codes "|  12.3457|e|+4|" ∷
    codes "| 123456.789 |e|+0|" ∷
    codes "|  123,456.789 |e|+0|" ∷
    codes "|1.2|E|5|" ∷ []
unfolding decimal_of of_15_digits magnitude places places_up_to
known_texts_5 = refl

-- codes and doubles, as Excel shows them
pub known_texts_6 : map shown ((codes "|#.#|E+|#|", 0x40FE_240C_9FBE_76C9) ∷
    (codes "|#,e-#|", 0x3EE9_E409_301B_5A02) ∷
    (codes "|#e-#,|", 0x3EE9_E409_301B_5A02) ∷
    (codes "|#%e-#|", 0x3EE9_E409_301B_5A02) ∷
    (codes "|#e-#%|", 0x3EE9_E409_301B_5A02) ∷
    (codes "|#|e-|#|", 0x3EE9_E409_301B_5A02) ∷
    (codes "|#.#|e-|#|", 0x3EE9_E409_301B_5A02) ∷
    (codes "|####.####|e-|#|", 0x3EE9_E409_301B_5A02) ∷ [])
    ≡ codes "|1.2|E|+5|" ∷
    codes "|1e-5|" ∷
    codes "|1e-5|" ∷
    codes "|1%e-5|" ∷
    codes "|1e-5%|" ∷
    codes "|1|e|-5|" ∷
    codes "|1.2|e|-5|" ∷
    codes "|1234.5679|e|-8|" ∷ []
unfolding decimal_of of_15_digits magnitude places places_up_to
known_texts_6 = refl

-- codes and doubles, as Excel shows them
pub known_texts_7 : map shown ((codes "|#######.####|e-|#|", 0x3EE9_E409_301B_5A02) ∷
    (codes "|#,######.####|e-|#|", 0x3EE9_E409_301B_5A02) ∷
    (codes "|0|e-|0|", 0x3EE9_E409_301B_5A02) ∷
    (codes "|0.0|e-|0|", 0x3EE9_E409_301B_5A02) ∷
    (codes "|0000.0000|e-|0|", 0x3EE9_E409_301B_5A02) ∷
    (codes "|0000000.0000|e-|0|", 0x3EE9_E409_301B_5A02) ∷
    (codes "|0,000000.0000|e-|0|", 0x3EE9_E409_301B_5A02) ∷
    (codes "|?|e-|?|", 0x3EE9_E409_301B_5A02) ∷ [])
    ≡ codes "|123.4568|e|-7|" ∷
    codes "|123.4568|e|-7|" ∷
    codes "|1|e|-5|" ∷
    codes "|1.2|e|-5|" ∷
    codes "|1234.5679|e|-8|" ∷
    codes "|0000123.4568|e|-7|" ∷
    codes "|0,000,123.4568|e|-7|" ∷
    codes "|1|e|-5|" ∷ []
unfolding decimal_of of_15_digits magnitude places places_up_to
known_texts_7 = refl

-- codes and doubles, as Excel shows them
pub known_texts_8 : map shown ((codes "|?.?|e-|?|", 0x3EE9_E409_301B_5A02) ∷
    (codes "|????.????|e-|?|", 0x3EE9_E409_301B_5A02) ∷
    (codes "|???????.????|e-|?|", 0x3EE9_E409_301B_5A02) ∷
    (codes "|?,??????.????|e-|?|", 0x3EE9_E409_301B_5A02) ∷
    (codes "|#,e+#|", 0x3EE9_E409_301B_5A02) ∷
    (codes "|#e+#,|", 0x3EE9_E409_301B_5A02) ∷
    (codes "|#%e+#|", 0x3EE9_E409_301B_5A02) ∷
    (codes "|#e+#%|", 0x3EE9_E409_301B_5A02) ∷ [])
    ≡ codes "|1.2|e|-5|" ∷
    codes "|1234.5679|e|-8|" ∷
    codes "|    123.4568|e|-7|" ∷
    codes "|      123.4568|e|-7|" ∷
    codes "|1e-5|" ∷
    codes "|1e-5|" ∷
    codes "|1%e-5|" ∷
    codes "|1e-5%|" ∷ []
unfolding decimal_of of_15_digits magnitude places places_up_to
known_texts_8 = refl

-- codes and doubles, as Excel shows them
pub known_texts_9 : map shown ((codes "|#|e+|#|", 0x3EE9_E409_301B_5A02) ∷
    (codes "|#.#|e+|#|", 0x3EE9_E409_301B_5A02) ∷
    (codes "|#.####|e+|#|", 0x3F20_2E85_BE11_1841) ∷
    (codes "|##.####|e+|#|", 0x3F20_2E85_BE11_1841) ∷
    (codes "|###.####|e+|#|", 0x3F20_2E85_BE11_1841) ∷
    (codes "|####.####|e+|#|", 0x3F20_2E85_BE11_1841) ∷
    (codes "|#####.####|e+|#|", 0x3F20_2E85_BE11_1841) ∷
    (codes "|#######.####|e+|#|", 0x3F20_2E85_BE11_1841) ∷ [])
    ≡ codes "|1|e|-5|" ∷
    codes "|1.2|e|-5|" ∷
    codes "|1.2346|e|-4|" ∷
    codes "|1.2346|e|-4|" ∷
    codes "|123.4568|e|-6|" ∷
    codes "|1.2346|e|-4|" ∷
    codes "|12.3457|e|-5|" ∷
    codes "|1234.5679|e|-7|" ∷ []
unfolding decimal_of of_15_digits magnitude places places_up_to
known_texts_9 = refl

-- codes and doubles, as Excel shows them
pub known_texts_10 : map shown ((codes "|#.####|e+|#|", 0x3EE9_E409_301B_5A02) ∷
    (codes "|##.####|e+|#|", 0x3EE9_E409_301B_5A02) ∷
    (codes "|###.####|e+|#|", 0x3EE9_E409_301B_5A02) ∷
    (codes "|####.####|e+|#|", 0x3EE9_E409_301B_5A02) ∷
    (codes "|#####.####|e+|#|", 0x3EE9_E409_301B_5A02) ∷
    (codes "|#######.####|e+|#|", 0x3EE9_E409_301B_5A02) ∷
    (codes "|#.####|e+|#|", 0x3EB4_B66D_C015_E19B) ∷
    (codes "|##.####|e+|#|", 0x3EB4_B66D_C015_E19B) ∷ [])
    ≡ codes "|1.2346|e|-5|" ∷
    codes "|12.3457|e|-6|" ∷
    codes "|12.3457|e|-6|" ∷
    codes "|1234.5679|e|-8|" ∷
    codes "|1.2346|e|-5|" ∷
    codes "|123.4568|e|-7|" ∷
    codes "|1.2346|e|-6|" ∷
    codes "|1.2346|e|-6|" ∷ []
unfolding decimal_of of_15_digits magnitude places places_up_to
known_texts_10 = refl

-- codes and doubles, as Excel shows them
pub known_texts_11 : map shown ((codes "|###.####|e+|#|", 0x3EB4_B66D_C015_E19B) ∷
    (codes "|####.####|e+|#|", 0x3EB4_B66D_C015_E19B) ∷
    (codes "|#####.####|e+|#|", 0x3EB4_B66D_C015_E19B) ∷
    (codes "|#######.####|e+|#|", 0x3EB4_B66D_C015_E19B) ∷
    (codes "|#,######.####|e+|#|", 0x3EB4_B66D_C015_E19B) ∷
    (codes "|0|e+|0|", 0x3EE9_E409_301B_5A02) ∷
    (codes "|0.0|e+|0|", 0x3EE9_E409_301B_5A02) ∷
    (codes "|0000.0000|e+|0|", 0x3EE9_E409_301B_5A02) ∷ [])
    ≡ codes "|1.2346|e|-6|" ∷
    codes "|123.4568|e|-8|" ∷
    codes "|12345.6789|e|-10|" ∷
    codes "|12.3457|e|-7|" ∷
    codes "|12.3457|e|-7|" ∷
    codes "|1|e|-5|" ∷
    codes "|1.2|e|-5|" ∷
    codes "|1234.5679|e|-8|" ∷ []
unfolding decimal_of of_15_digits magnitude places places_up_to
known_texts_11 = refl

-- codes and doubles, as Excel shows them
pub known_texts_12 : map shown ((codes "|0000000.0000|e+|0|", 0x3EE9_E409_301B_5A02) ∷
    (codes "|0,000000.0000|e+|0|", 0x3EE9_E409_301B_5A02) ∷
    (codes "|?|e+|?|", 0x3EE9_E409_301B_5A02) ∷
    (codes "|?.?|e+|?|", 0x3EE9_E409_301B_5A02) ∷
    (codes "|????.????|e+|?|", 0x3EE9_E409_301B_5A02) ∷
    (codes "|???????.????|e+|?|", 0x3EE9_E409_301B_5A02) ∷
    (codes "|?,??????.????|e+|?|", 0x3EE9_E409_301B_5A02) ∷
    (codes "|#.#|E-|#|", 0x3EE9_E409_301B_5A02) ∷ [])
    ≡ codes "|0000123.4568|e|-7|" ∷
    codes "|0,000,123.4568|e|-7|" ∷
    codes "|1|e|-5|" ∷
    codes "|1.2|e|-5|" ∷
    codes "|1234.5679|e|-8|" ∷
    codes "|    123.4568|e|-7|" ∷
    codes "|      123.4568|e|-7|" ∷
    codes "|1.2|E|-5|" ∷ []
unfolding decimal_of of_15_digits magnitude places places_up_to
known_texts_12 = refl

-- codes and doubles, as Excel shows them
pub known_texts_13 : map shown ((codes "|#.#|E+|#|", 0x3EE9_E409_301B_5A02) ∷
    (codes "|#,e-#|", 0x0000_0000_0000_0000) ∷
    (codes "|#e-#,|", 0x0000_0000_0000_0000) ∷
    (codes "|#%e-#|", 0x0000_0000_0000_0000) ∷
    (codes "|#e-#%|", 0x0000_0000_0000_0000) ∷
    (codes "|#|e-|#|", 0x0000_0000_0000_0000) ∷
    (codes "|#.#|e-|#|", 0x0000_0000_0000_0000) ∷
    (codes "|####.####|e-|#|", 0x0000_0000_0000_0000) ∷ [])
    ≡ codes "|1.2|E|-5|" ∷
    codes "|0e0|" ∷
    codes "|0e0|" ∷
    codes "|0%e0|" ∷
    codes "|0e0%|" ∷
    codes "|0|e|0|" ∷
    codes "|0.|e|0|" ∷
    codes "|0000.|e|0|" ∷ []
unfolding decimal_of of_15_digits magnitude places places_up_to
known_texts_13 = refl

-- codes and doubles, as Excel shows them
pub known_texts_14 : map shown ((codes "|#######.####|e-|#|", 0x0000_0000_0000_0000) ∷
    (codes "|#,######.####|e-|#|", 0x0000_0000_0000_0000) ∷
    (codes "|0|e-|0|", 0x0000_0000_0000_0000) ∷
    (codes "|0.0|e-|0|", 0x0000_0000_0000_0000) ∷
    (codes "|0000.0000|e-|0|", 0x0000_0000_0000_0000) ∷
    (codes "|0000000.0000|e-|0|", 0x0000_0000_0000_0000) ∷
    (codes "|0,000000.0000|e-|0|", 0x0000_0000_0000_0000) ∷
    (codes "|?|e-|?|", 0x0000_0000_0000_0000) ∷ [])
    ≡ codes "|0000000.|e|0|" ∷
    codes "|0,000,000.|e|0|" ∷
    codes "|0|e|0|" ∷
    codes "|0.0|e|0|" ∷
    codes "|0000.0000|e|0|" ∷
    codes "|0000000.0000|e|0|" ∷
    codes "|0,000,000.0000|e|0|" ∷
    codes "|0|e|0|" ∷ []
unfolding decimal_of of_15_digits magnitude places places_up_to
known_texts_14 = refl

-- codes and doubles, as Excel shows them
pub known_texts_15 : map shown ((codes "|?.?|e-|?|", 0x0000_0000_0000_0000) ∷
    (codes "|????.????|e-|?|", 0x0000_0000_0000_0000) ∷
    (codes "|???????.????|e-|?|", 0x0000_0000_0000_0000) ∷
    (codes "|?,??????.????|e-|?|", 0x0000_0000_0000_0000) ∷
    (codes "|#,e+#|", 0x0000_0000_0000_0000) ∷
    (codes "|#e+#,|", 0x0000_0000_0000_0000) ∷
    (codes "|#%e+#|", 0x0000_0000_0000_0000) ∷
    (codes "|#e+#%|", 0x0000_0000_0000_0000) ∷ [])
    ≡ codes "|0. |e|0|" ∷
    codes "|0000.    |e|0|" ∷
    codes "|0000000.    |e|0|" ∷
    codes "|0,000,000.    |e|0|" ∷
    codes "|0e+0|" ∷
    codes "|0e+0|" ∷
    codes "|0%e+0|" ∷
    codes "|0e+0%|" ∷ []
unfolding decimal_of of_15_digits magnitude places places_up_to
known_texts_15 = refl

-- codes and doubles, as Excel shows them
pub known_texts_16 : map shown ((codes "|#|e+|#|", 0x0000_0000_0000_0000) ∷
    (codes "|#.#|e+|#|", 0x0000_0000_0000_0000) ∷
    (codes "|####.####|e+|#|", 0x0000_0000_0000_0000) ∷
    (codes "|#######.####|e+|#|", 0x0000_0000_0000_0000) ∷
    (codes "|#,######.####|e+|#|", 0x0000_0000_0000_0000) ∷
    (codes "|0|e+|0|", 0x0000_0000_0000_0000) ∷
    (codes "|0.0|e+|0|", 0x0000_0000_0000_0000) ∷
    (codes "|0000.0000|e+|0|", 0x0000_0000_0000_0000) ∷ [])
    ≡ codes "|0|e|+0|" ∷
    codes "|0.|e|+0|" ∷
    codes "|0000.|e|+0|" ∷
    codes "|0000000.|e|+0|" ∷
    codes "|0,000,000.|e|+0|" ∷
    codes "|0|e|+0|" ∷
    codes "|0.0|e|+0|" ∷
    codes "|0000.0000|e|+0|" ∷ []
unfolding decimal_of of_15_digits magnitude places places_up_to
known_texts_16 = refl

-- codes and doubles, as Excel shows them
pub known_texts_17 : map shown ((codes "|0000000.0000|e+|0|", 0x0000_0000_0000_0000) ∷
    (codes "|0,000000.0000|e+|0|", 0x0000_0000_0000_0000) ∷
    (codes "|?|e+|?|", 0x0000_0000_0000_0000) ∷
    (codes "|?.?|e+|?|", 0x0000_0000_0000_0000) ∷
    (codes "|????.????|e+|?|", 0x0000_0000_0000_0000) ∷
    (codes "|???????.????|e+|?|", 0x0000_0000_0000_0000) ∷
    (codes "|?,??????.????|e+|?|", 0x0000_0000_0000_0000) ∷
    (codes "|#.#|E-|#|", 0x0000_0000_0000_0000) ∷ [])
    ≡ codes "|0000000.0000|e|+0|" ∷
    codes "|0,000,000.0000|e|+0|" ∷
    codes "|0|e|+0|" ∷
    codes "|0. |e|+0|" ∷
    codes "|0000.    |e|+0|" ∷
    codes "|0000000.    |e|+0|" ∷
    codes "|0,000,000.    |e|+0|" ∷
    codes "|0.|E|0|" ∷ []
unfolding decimal_of of_15_digits magnitude places places_up_to
known_texts_17 = refl

-- codes and doubles, as Excel shows them
pub known_texts_18 : map shown ((codes "|#.#|E+|#|", 0x0000_0000_0000_0000) ∷
    (codes "|#.#|e+|#|", 0x5D70_32D6_3620_3B97) ∷
    (codes "|#.#|e+|#####|", 0x5D70_32D6_3620_3B97) ∷
    (codes "|#.#|e+|0|", 0x5D70_32D6_3620_3B97) ∷
    (codes "|#.#|e+|000|", 0x5D70_32D6_3620_3B97) ∷
    (codes "|#.#|e+|0000|", 0x5D70_32D6_3620_3B97) ∷
    (codes "|#.#|e+|00000|", 0x5D70_32D6_3620_3B97) ∷
    (codes "|#.#|e+|?|", 0x5D70_32D6_3620_3B97) ∷ [])
    ≡ codes "|0.|E|+0|" ∷
    codes "|1.2|e|+142|" ∷
    codes "|1.2|e|+142|" ∷
    codes "|1.2|e|+142|" ∷
    codes "|1.2|e|+142|" ∷
    codes "|1.2|e|+0142|" ∷
    codes "|1.2|e|+00142|" ∷
    codes "|1.2|e|+142|" ∷ []
unfolding decimal_of of_15_digits magnitude places places_up_to
known_texts_18 = refl

-- codes and doubles, as Excel shows them
pub known_texts_19 : map shown ((codes "|#.#|e+|???|", 0x5D70_32D6_3620_3B97) ∷
    (codes "|#.#|e+|????|", 0x5D70_32D6_3620_3B97) ∷
    (codes "|#.#|e+|?????|", 0x5D70_32D6_3620_3B97) ∷
    (codes "|#.#|e+|#####|", 0x0000_0000_0000_0000) ∷
    (codes "|#.#|e+|0|", 0x0000_0000_0000_0000) ∷
    (codes "|#.#|e+|000|", 0x0000_0000_0000_0000) ∷
    (codes "|#.#|e+|0000|", 0x0000_0000_0000_0000) ∷
    (codes "|#.#|e+|00000|", 0x0000_0000_0000_0000) ∷ [])
    ≡ codes "|1.2|e|+142|" ∷
    codes "|1.2|e|+ 142|" ∷
    codes "|1.2|e|+  142|" ∷
    codes "|0.|e|+0|" ∷
    codes "|0.|e|+0|" ∷
    codes "|0.|e|+000|" ∷
    codes "|0.|e|+0000|" ∷
    codes "|0.|e|+00000|" ∷ []
unfolding decimal_of of_15_digits magnitude places places_up_to
known_texts_19 = refl

-- codes and doubles, as Excel shows them
pub known_texts_20 : map shown ((codes "|#.#|e+|?|", 0x0000_0000_0000_0000) ∷
    (codes "|#.#|e+|???|", 0x0000_0000_0000_0000) ∷
    (codes "|#.#|e+|????|", 0x0000_0000_0000_0000) ∷
    (codes "|#.#|e+|?????|", 0x0000_0000_0000_0000) ∷
    (codes "|#.#|e+|#|", 0x2278_166A_9822_12DC) ∷
    (codes "|#.#|e+|#####|", 0x2278_166A_9822_12DC) ∷
    (codes "|#.#|e+|0|", 0x2278_166A_9822_12DC) ∷
    (codes "|#.#|e+|000|", 0x2278_166A_9822_12DC) ∷ [])
    ≡ codes "|0.|e|+0|" ∷
    codes "|0.|e|+  0|" ∷
    codes "|0.|e|+   0|" ∷
    codes "|0.|e|+    0|" ∷
    codes "|1.2|e|-142|" ∷
    codes "|1.2|e|-142|" ∷
    codes "|1.2|e|-142|" ∷
    codes "|1.2|e|-142|" ∷ []
unfolding decimal_of of_15_digits magnitude places places_up_to
known_texts_20 = refl

-- codes and doubles, as Excel shows them
pub known_texts_21 : map shown ((codes "|#.#|e+|0000|", 0x2278_166A_9822_12DC) ∷
    (codes "|#.#|e+|00000|", 0x2278_166A_9822_12DC) ∷
    (codes "|#.#|e+|000,00|", 0x2278_166A_9822_12DC) ∷
    (codes "|#.#|e+|?|", 0x2278_166A_9822_12DC) ∷
    (codes "|#.#|e+|???|", 0x2278_166A_9822_12DC) ∷
    (codes "|#.#|e+|????|", 0x2278_166A_9822_12DC) ∷
    (codes "|#.#|e+|?????|", 0x2278_166A_9822_12DC) ∷
    (codes "##0.0E+0", 0x4009_21F9_F01B_866E) ∷ [])
    ≡ codes "|1.2|e|-0142|" ∷
    codes "|1.2|e|-00142|" ∷
    codes "|1.2|e|-00142|" ∷
    codes "|1.2|e|-142|" ∷
    codes "|1.2|e|-142|" ∷
    codes "|1.2|e|- 142|" ∷
    codes "|1.2|e|-  142|" ∷
    codes "3.1E+0" ∷ []
unfolding decimal_of of_15_digits magnitude places places_up_to
known_texts_21 = refl

-- codes and doubles, as Excel shows them
pub known_texts_22 : map shown ((codes "0E+0", 0x423C_BE99_1A14_0000) ∷
    (codes "0.0E+0", 0x3FF8_0000_0000_0000) ∷
    (codes "##0.00E+00", 0x4163_12CF_FE66_6666) ∷
    (codes "0.00E+00", 0x3DE4_9DA7_E361_CE4C) ∷
    (codes "#.##E+00", 0x42DC_1221_8377_DE40) ∷
    (codes "0E+00", 0x43B1_2210_F47D_E981) ∷
    (codes "##0E+0", 0x01A5_6E1F_C2F8_F359) ∷
    (codes "00.0E+0", 0x40E6_24FF_FFF1_51E7) ∷ [])
    ≡ codes "1E+11" ∷
    codes "1.5E+0" ∷
    codes "10.00E+06" ∷
    codes "1.50E-10" ∷
    codes "1.23E+14" ∷
    codes "1E+18" ∷
    codes "1E-300" ∷
    codes "04.5E+4" ∷ []
unfolding decimal_of of_15_digits magnitude places places_up_to
known_texts_22 = refl

-- codes and doubles, as Excel shows them
pub known_texts_23 : map shown ((codes "0E+00", 0x4028_B0FC_D324_D5A2) ∷
    (codes "00.0E+0", 0x3F50_624D_D2F1_A9FC) ∷
    (codes "##0.0E+0", 0x0000_0000_0000_0000) ∷
    (codes "##0.0E+0", 0x412E_8430_0000_0000) ∷
    (codes "0.00E+00", 0x4202_9FE5_0E00_0000) ∷
    (codes ".00E+00", 0x40C8_1C80_0000_0000) ∷
    (codes "0E+0", 0x0000_0000_0000_0000) ∷
    (codes "?e-0??", 0x4024_0000_0000_0000) ∷ [])
    ≡ codes "1E+01" ∷
    codes "10.0E-4" ∷
    codes "000.0E+0" ∷
    codes "1.0E+6" ∷
    codes "1.00E+10" ∷
    codes ".12E+05" ∷
    codes "0E+0" ∷
    codes "1e0 1" ∷ []
unfolding decimal_of of_15_digits magnitude places places_up_to
known_texts_23 = refl

-- codes and doubles, as Excel shows them
pub known_texts_24 : map shown ((codes ".000E-##0", 0x4055_683F_1412_05BC) ∷ [])
    ≡ codes ".856E2" ∷ []
unfolding decimal_of of_15_digits magnitude places places_up_to
known_texts_24 = refl
