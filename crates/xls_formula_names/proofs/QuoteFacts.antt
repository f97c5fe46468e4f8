-- Known values of the rules for quotes, whole tables of them, so that a wrong rule does not check.
use Rattle.std.proofs.Common.{◌≡◌, ℕ, zero, suc, ◌+◌, not, Bool, true, false, List, [], ◌∷◌, ◌++◌, length, map, refl, codes}
use Rattle.std.specs.List.{filter, list_all, list_any}
use Rattle.xls_formula_names.specs.declared.signs.TheConstants.{SIGNS}
use Rattle.xls_formula_names.specs.Quotes.{is_cell, is_r1c1, is_sign, is_truth, needs_quotes}

-- n characters from c on
abbrev characters : ℕ → ℕ → List ℕ
characters zero c = []
characters (suc n) c = c ∷ characters n (c + 1)

abbrev not_needed : List ℕ → Bool
not_needed name = not (needs_quotes name)

-- ---- ASCII

-- inside of a name: those that need none
pub known_inside : filter (λ c. not_needed (0x61 ∷ c ∷ 0x61 ∷ [])) (characters 128 0) ≡ codes ".0123456789ABCDEFGHIJKLMNOPQRSTUVWXYZ_abcdefghijklmnopqrstuvwxyz"
known_inside = refl

-- at the beginning of one
pub known_first : filter (λ c. not_needed (c ∷ 0x61 ∷ [])) (characters 128 0) ≡ codes "ABCDEFGHIJKLMNOPQRSTUVWXYZ_abcdefghijklmnopqrstuvwxyz"
known_first = refl

-- alone: `R` and `C` need them too
pub known_alone : filter (λ c. not_needed (c ∷ [])) (characters 128 0) ≡ codes "ABDEFGHIJKLMNOPQSTUVWXYZ_abdefghijklmnopqstuvwxyz"
known_alone = refl

pub known_empty : needs_quotes [] ≡ true
known_empty = refl

-- ---- Signs and blanks outside of ASCII

pub known_count : length SIGNS ≡ 23
known_count = refl

-- the first and the last of each range
pub known_firsts : list_all is_sign (
    0x80 ∷ 0xAB ∷ 0xB6 ∷ 0xBB ∷ 0xD7 ∷ 0xF7 ∷ 0x2000 ∷ 0x20A0 ∷ 0x2190 ∷ 0x2E00 ∷ 0x3000 ∷ 0x3008 ∷ 0x3030 ∷ 0xE000 ∷ 0xFE10 ∷
    0xFE30 ∷ 0xFF00 ∷ 0xFF1A ∷ 0xFF3B ∷ 0xFF40 ∷ 0xFF5B ∷ 0xFFE0 ∷ 0x1F000 ∷ []
    ) ≡ true
known_firsts = refl

pub known_lasts : list_all is_sign (
    0xA9 ∷ 0xB4 ∷ 0xB9 ∷ 0xBF ∷ 0xD7 ∷ 0xF7 ∷ 0x206F ∷ 0x20CF ∷ 0x2BFF ∷ 0x2E7F ∷ 0x3004 ∷ 0x3020 ∷ 0x3030 ∷ 0xF8FF ∷ 0xFE1F ∷
    0xFE6F ∷ 0xFF0F ∷ 0xFF20 ∷ 0xFF3E ∷ 0xFF40 ∷ 0xFF65 ∷ 0xFFFF ∷ 0x1FAFF ∷ []
    ) ≡ true
known_lasts = refl

-- what stands before the first of each, and behind the last, where that is no other range's
pub known_before : list_any is_sign (
    0xAA ∷ 0xB5 ∷ 0xBA ∷ 0xD6 ∷ 0xF6 ∷ 0x1FFF ∷ 0x209F ∷ 0x218F ∷ 0x2DFF ∷ 0x2FFF ∷ 0x3007 ∷ 0x302F ∷ 0xDFFF ∷ 0xFE0F ∷ 0xFE2F ∷
    0xFEFF ∷ 0xFF19 ∷ 0xFF3A ∷ 0xFF3F ∷ 0xFF5A ∷ 0xFFDF ∷ 0x1EFFF ∷ []
    ) ≡ false
known_before = refl

pub known_after : list_any is_sign (
    0xAA ∷ 0xB5 ∷ 0xBA ∷ 0xC0 ∷ 0xD8 ∷ 0xF8 ∷ 0x2070 ∷ 0x20D0 ∷ 0x2C00 ∷ 0x2E80 ∷ 0x3005 ∷ 0x3021 ∷ 0x3031 ∷ 0xF900 ∷ 0xFE20 ∷
    0xFE70 ∷ 0xFF10 ∷ 0xFF21 ∷ 0xFF3F ∷ 0xFF41 ∷ 0xFF66 ∷ 0x10000 ∷ 0x1FB00 ∷ []
    ) ≡ false
known_after = refl

-- of the characters 80 to FF, those that are none
pub known_latin : filter (λ c. not (is_sign c)) (characters 0x80 0x80) ≡ 0xAA ∷ 0xB5 ∷ 0xBA ∷ characters 23 0xC0 ++ characters 31 0xD8 ++ characters 8 0xF8
known_latin = refl

-- a name has quotes for one of them anywhere
pub known_signed : map needs_quotes ((0x61 ∷ 0xA0 ∷ 0x61 ∷ []) ∷ (0x61 ∷ 0x1F600 ∷ []) ∷ (0x20AC ∷ 0x61 ∷ []) ∷ (0x61 ∷ 0xE4 ∷ []) ∷ (0xE4 ∷ []) ∷ (0x4E00 ∷ 0x3005 ∷ []) ∷ [])
    ≡ true ∷ true ∷ true ∷ false ∷ false ∷ false ∷ []
known_signed = refl

-- ---- Cells

pub known_cells : list_all (is_cell 0) (
    codes "A1" ∷ codes "a1" ∷ codes "Z1" ∷ codes "AA1" ∷ codes "IV1" ∷ codes "iv65536" ∷ codes "IV65536" ∷ codes "IV1" ∷
    codes "AZ9" ∷ codes "BA10" ∷ codes "HZ99" ∷ codes "IA1" ∷ codes "A01" ∷ codes "A0001" ∷ codes "B00065536" ∷ codes "A65536" ∷
    codes "iV12" ∷ codes "Q4" ∷ []
    ) ≡ true
known_cells = refl

pub known_no_cells : list_any (is_cell 0) (
    codes "IW1" ∷ codes "ABC1" ∷ codes "XFD1" ∷ codes "A0" ∷ codes "A00" ∷ codes "A65537" ∷ codes "IV65537" ∷
    codes "A99999999999999999999" ∷ codes "AAA1" ∷ codes "A1B" ∷ codes "A1_" ∷ codes "Tax1x" ∷ codes "ZZ1" ∷ codes "_A1" ∷
    codes "IW65536" ∷ codes "JA1" ∷ codes "A" ∷ codes "AB" ∷ codes "IV" ∷ codes "Sheet1" ∷ codes "Q4x" ∷ codes "Ä1" ∷ []
    ) ≡ false
known_no_cells = refl

pub known_r1c1 : list_all is_r1c1 (
    codes "R" ∷ codes "C" ∷ codes "RC" ∷ codes "r" ∷ codes "c" ∷ codes "rc" ∷ codes "rC" ∷ codes "R1" ∷ codes "R65536" ∷
    codes "R1C1" ∷ codes "r1c1" ∷ codes "RC1x" ∷ codes "RC256" ∷ codes "C1" ∷ codes "C256" ∷ codes "C256x" ∷ codes "c256" ∷
    codes "R0001" ∷ codes "C00256" ∷ codes "RC0001" ∷ codes "R00065536" ∷ codes "R1x" ∷ codes "R12_abc" ∷ codes "R65536C300" ∷
    codes "C1R1" ∷ codes "RC1RC1" ∷ codes "R1C0" ∷ codes "R1_" ∷ codes "rc9.x" ∷ []
    ) ≡ true
known_r1c1 = refl

pub known_no_r1c1 : list_any is_r1c1 (
    codes "R0" ∷ codes "R00" ∷ codes "C0" ∷ codes "RC0" ∷ codes "C257" ∷ codes "RC257" ∷ codes "R65537" ∷ codes "R65537C1" ∷
    codes "C2560" ∷ codes "R655360" ∷ codes "C999999999999999999999" ∷ codes "R99999999999999999999" ∷ codes "Rx" ∷ codes "Cx" ∷
    codes "RCx" ∷ codes "RR" ∷ codes "CC" ∷ codes "CR" ∷ codes "CR1" ∷ codes "RCR1" ∷ codes "RR1" ∷ codes "R_1" ∷ codes "C_1" ∷
    codes "RC_1" ∷ codes "RC.1" ∷ codes "XR1C1" ∷ codes "Rate" ∷ codes "Cost" ∷ codes "RCA" ∷ []
    ) ≡ false
known_no_r1c1 = refl

-- ---- Truth values

pub known_truths : list_all is_truth (
    codes "TRUE" ∷ codes "FALSE" ∷ codes "true" ∷ codes "false" ∷ codes "True" ∷ codes "fAlSe" ∷ []
    ) ≡ true
known_truths = refl

pub known_no_truths : list_any is_truth (
    codes "TRU" ∷ codes "TRUE1" ∷ codes "FALS" ∷ codes "FALSES" ∷ codes "T" ∷ codes "F" ∷ codes "TRUEFALSE" ∷ codes "_TRUE" ∷
    codes "TRUTH" ∷ codes "FALSÉ" ∷ []
    ) ≡ false
known_no_truths = refl

-- ---- All rules together

pub known_quoted : list_all needs_quotes (
    codes "A1" ∷ codes "a1" ∷ codes "Z1" ∷ codes "AA1" ∷ codes "IV1" ∷ codes "iv65536" ∷ codes "IV65536" ∷ codes "IV1" ∷
    codes "AZ9" ∷ codes "BA10" ∷ codes "HZ99" ∷ codes "IA1" ∷ codes "A01" ∷ codes "A0001" ∷ codes "B00065536" ∷ codes "A65536" ∷
    codes "iV12" ∷ codes "Q4" ∷ codes "R" ∷ codes "C" ∷ codes "RC" ∷ codes "r" ∷ codes "c" ∷ codes "rc" ∷ codes "rC" ∷
    codes "R1" ∷ codes "R65536" ∷ codes "R1C1" ∷ codes "r1c1" ∷ codes "RC1x" ∷ codes "RC256" ∷ codes "C1" ∷ codes "C256" ∷
    codes "C256x" ∷ codes "c256" ∷ codes "R0001" ∷ codes "C00256" ∷ codes "RC0001" ∷ codes "R00065536" ∷ codes "R1x" ∷
    codes "R12_abc" ∷ codes "R65536C300" ∷ codes "C1R1" ∷ codes "RC1RC1" ∷ codes "R1C0" ∷ codes "R1_" ∷ codes "rc9.x" ∷
    codes "TRUE" ∷ codes "FALSE" ∷ codes "true" ∷ codes "false" ∷ codes "True" ∷ codes "fAlSe" ∷ codes "1st" ∷ codes "2024" ∷
    codes ".x" ∷ codes "a b" ∷ codes "a-b" ∷ codes "it's" ∷ codes "#REF" ∷ codes "a!b" ∷ codes "[x]" ∷ codes "Book1.xls " ∷
    codes "C:" ∷ []
    ) ≡ true
known_quoted = refl

pub known_plain : list_any needs_quotes (
    codes "IW1" ∷ codes "ABC1" ∷ codes "XFD1" ∷ codes "A0" ∷ codes "A00" ∷ codes "A65537" ∷ codes "IV65537" ∷
    codes "A99999999999999999999" ∷ codes "AAA1" ∷ codes "A1B" ∷ codes "A1_" ∷ codes "Tax1x" ∷ codes "ZZ1" ∷ codes "_A1" ∷
    codes "IW65536" ∷ codes "JA1" ∷ codes "A" ∷ codes "AB" ∷ codes "IV" ∷ codes "Sheet1" ∷ codes "Q4x" ∷ codes "Ä1" ∷
    codes "R0" ∷ codes "R00" ∷ codes "C0" ∷ codes "RC0" ∷ codes "RC257" ∷ codes "R65537" ∷ codes "R65537C1" ∷
    codes "R655360" ∷ codes "C999999999999999999999" ∷ codes "R99999999999999999999" ∷ codes "Rx" ∷ codes "Cx" ∷
    codes "RCx" ∷ codes "RR" ∷ codes "CC" ∷ codes "CR" ∷ codes "RCR1" ∷ codes "RR1" ∷ codes "R_1" ∷ codes "C_1" ∷
    codes "RC_1" ∷ codes "RC.1" ∷ codes "XR1C1" ∷ codes "Rate" ∷ codes "Cost" ∷ codes "RCA" ∷ codes "TRU" ∷ codes "TRUE1" ∷
    codes "FALS" ∷ codes "FALSES" ∷ codes "T" ∷ codes "F" ∷ codes "TRUEFALSE" ∷ codes "_TRUE" ∷ codes "TRUTH" ∷ codes "FALSÉ" ∷
    codes "Book1.xls" ∷ codes "a.b" ∷ codes "_" ∷ codes "data_2024" ∷ codes "TRUEx" ∷ []
    ) ≡ false
known_plain = refl
