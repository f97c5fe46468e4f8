-- Values from outside, so that a wrong rule in the definitions does not check.
use Rattle.std.proofs.Common.{◌≡◌, ℕ, List, [], ◌∷◌, ◌++◌, length, map, refl, pos, negsuc, codes, Some, None, Ok, Err, replicate}
use Rattle.std.specs.List.{flat_map}
use Rattle.std.specs.Fmt.{digits}
use Rattle.xls_bytes.specs.Columns.{word_of, column_name}
use Rattle.xls_bytes.specs.Doubles.{size_of_parts}
use Rattle.xls_dates.specs.Numbers.{sixteen_digits}
use Rattle.xls_stream.specs.declared.part.Part.TheVariants as parts
use Rattle.xls_text.specs.declared.encoding.XlsEncoding.TheVariants.{Utf16, Windows1252}
use Rattle.xls_record.specs.declared.error.XlsError.TheVariants as errors
use Rattle.xls_record.specs.declared.version.Biff.{Biff}
use Rattle.xls_record.specs.declared.version.Biff.TheVariants.{Biff5, Biff8}
use Rattle.xls_text.specs.declared.encoding.XlsEncoding.{XlsEncoding}
use Rattle.xls_rounding.specs.Fractions.{magnitude, places, places_up_to}
use Rattle.xls_rounding.specs.Rounding.{decimal_of, of_15_digits}
use Rattle.xls_formula.specs.Context.{Context}
use Rattle.xls_formula.specs.Defined.{defined_at, lbl_at}
use Rattle.xls_formula.specs.Fold.{formula_text}
use Rattle.xls_formula.specs.Functions.{Function, shipped}
use Rattle.xls_formula.specs.declared.numbers.NumberStyle.TheVariants.{Bits, Decimal}

-- a workbook of one sheet, `A`, of one name, `N`, and of a reference to the sheet
abbrev context : XlsEncoding → Biff → Context
context page biff = record {
  sheets = codes "A" ∷ [];
  names = (codes "N", codes "A!$A$1") ∷ [];
  refs = pos 0 ∷ negsuc 0 ∷ [];
  page = page;
  biff = biff;
  functions = (codes "PI", 0) ∷ (codes "SUM", 255) ∷ (codes "ROUND", 2) ∷ [];
  numbers = Bits;
}

-- cells on a sheet: the last row and column of BIFF8's, an area, a reference that holds no sheet
known_cell : formula_text (context Utf16 Biff8) (7 ∷ 0 ∷ 0x3A ∷ 0 ∷ 0 ∷ 0xFF ∷ 0xFF ∷ 0 ∷ 0xC0 ∷ []) ≡ Ok (codes "A!A65536")
unfolding digits column_name word_of
known_cell = refl

known_area : formula_text (context Utf16 Biff8) (11 ∷ 0 ∷ 0x3B ∷ 0 ∷ 0 ∷ 0 ∷ 0 ∷ 9 ∷ 0 ∷ 1 ∷ 0xC0 ∷ 2 ∷ 0x40 ∷ []) ≡ Ok (codes "A!$B$1:$C$10")
unfolding digits column_name word_of
known_area = refl

known_no_sheet : formula_text (context Utf16 Biff8) (7 ∷ 0 ∷ 0x5A ∷ 1 ∷ 0 ∷ 0 ∷ 0 ∷ 0 ∷ 0 ∷ []) ≡ Ok (codes "#REF!$A$1")
unfolding digits column_name word_of
known_no_sheet = refl

-- names count from 1
known_name : formula_text (context Utf16 Biff8) (5 ∷ 0 ∷ 0x23 ∷ 1 ∷ 0 ∷ 0 ∷ 0 ∷ []) ≡ Ok (codes "N")
known_name = refl

known_no_name : formula_text (context Utf16 Biff8) (5 ∷ 0 ∷ 0x23 ∷ 0 ∷ 0 ∷ 0 ∷ 0 ∷ []) ≡ Ok (codes "#REF!")
known_no_name = refl

known_early_name : formula_text (context Utf16 Biff5) (15 ∷ 0 ∷ 0x23 ∷ replicate 14 0) ≡ Ok (codes "#REF!")
known_early_name = refl

-- a row is relative by 8000, a column by 4000, in the column word and before BIFF8 in the row word
known_relative : formula_text (context Utf16 Biff8) (5 ∷ 0 ∷ 0x24 ∷ 1 ∷ 0 ∷ 2 ∷ 0x40 ∷ []) ≡ Ok (codes "C$2")
unfolding digits column_name word_of
known_relative = refl

known_early_relative : formula_text (context Utf16 Biff5) (4 ∷ 0 ∷ 0x44 ∷ 1 ∷ 0x80 ∷ 2 ∷ []) ≡ Ok (codes "$C2")
unfolding digits column_name word_of
known_early_relative = refl

known_early_area : formula_text (context Utf16 Biff5) (7 ∷ 0 ∷ 0x25 ∷ 0 ∷ 0xC0 ∷ 9 ∷ 0xC0 ∷ 0 ∷ 1 ∷ []) ≡ Ok (codes "$A$1:$B$10")
unfolding digits column_name word_of
known_early_area = refl

-- each corner of BIFF8's area has its own flags, and on a sheet both have `$`
known_mixed_area : formula_text (context Utf16 Biff8) (9 ∷ 0 ∷ 0x25 ∷ 1 ∷ 0 ∷ 9 ∷ 0 ∷ 2 ∷ 0x40 ∷ 3 ∷ 0x80 ∷ []) ≡ Ok (codes "C$2:$D10")
unfolding digits column_name word_of
known_mixed_area = refl

-- before BIFF8 a reference has its index at bytes 10 and 11 and its row word at byte 14: here the one of
-- index 1, which holds the second of two sheets
abbrev early : Context
early = record {
  sheets = codes "A" ∷ codes "B" ∷ [];
  names = [];
  refs = pos 0 ∷ pos 1 ∷ [];
  page = Windows1252;
  biff = Biff5;
  functions = [];
  numbers = Bits;
}

abbrev early_prefix : List ℕ
early_prefix = 9 ∷ 8 ∷ 7 ∷ 6 ∷ 5 ∷ 4 ∷ 3 ∷ 2 ∷ 1 ∷ 0 ∷ 1 ∷ 0 ∷ 0xEE ∷ 0xEE ∷ []

known_early_cell : formula_text early (18 ∷ 0 ∷ 0x3A ∷ early_prefix ++ (1 ∷ 0x40 ∷ 2 ∷ [])) ≡ Ok (codes "B!C$2")
unfolding digits column_name word_of
known_early_cell = refl

known_early_sheet_area : formula_text early (21 ∷ 0 ∷ 0x3B ∷ early_prefix ++ (1 ∷ 0x40 ∷ 9 ∷ 0xC0 ∷ 2 ∷ 4 ∷ [])) ≡ Ok (codes "B!$C$2:$E$10")
unfolding digits column_name word_of
known_early_sheet_area = refl

known_early_ref_err : formula_text early (18 ∷ 0 ∷ 0x3C ∷ early_prefix ++ replicate 3 0) ≡ Ok (codes "B!#REF!")
known_early_ref_err = refl

known_early_area_err : formula_text early (21 ∷ 0 ∷ 0x3D ∷ early_prefix ++ replicate 6 0) ≡ Ok (codes "B!#REF!")
known_early_area_err = refl

-- strings of both layouts, whole and cut
known_string : formula_text (context Windows1252 Biff5) (8 ∷ 0 ∷ 0x17 ∷ 6 ∷ codes "SCHUCH") ≡ Ok (codes "\"SCHUCH\"")
known_string = refl

known_biff8_string : formula_text (context Utf16 Biff8) (9 ∷ 0 ∷ 0x17 ∷ 6 ∷ 0 ∷ codes "SCHUCH") ≡ Ok (codes "\"SCHUCH\"")
known_biff8_string = refl

known_short_string : formula_text (context Windows1252 Biff5) (5 ∷ 0 ∷ 0x17 ∷ 6 ∷ codes "SCH") ≡ Err (errors.Len 7 4 parts.PtgStr)
known_short_string = refl

-- the doubles 1 and 2.5
known_double : formula_text (context Utf16 Biff8) (9 ∷ 0 ∷ 0x1F ∷ 0 ∷ 0 ∷ 0 ∷ 0 ∷ 0 ∷ 0 ∷ 0xF0 ∷ 0x3F ∷ []) ≡ Ok (codes "1")
unfolding digits size_of_parts
known_double = refl

known_fraction : formula_text (context Utf16 Biff8) (9 ∷ 0 ∷ 0x1F ∷ 0 ∷ 0 ∷ 0 ∷ 0 ∷ 0 ∷ 0 ∷ 0x04 ∷ 0x40 ∷ []) ≡ Ok (codes "0x4004000000000000")
unfolding digits size_of_parts sixteen_digits
known_fraction = refl

-- the double 1.5 beside a sheet whose name is its bits: as Excel shows numbers, and by their bits
known_styles : map (λ style. formula_text (record { sheets = codes "0x3ff8000000000000" ∷ []; names = []; refs = pos 0 ∷ []; page = Utf16; biff = Biff8; functions = []; numbers = style })
    (17 ∷ 0 ∷ 0x3A ∷ 0 ∷ 0 ∷ 0 ∷ 0 ∷ 0 ∷ 0 ∷ 0x1F ∷ 0 ∷ 0 ∷ 0 ∷ 0 ∷ 0 ∷ 0 ∷ 0xF8 ∷ 0x3F ∷ 0x05 ∷ [])) (Bits ∷ Decimal ∷ [])
    ≡ Ok (codes "0x3ff8000000000000!$A$1*0x3ff8000000000000") ∷ Ok (codes "0x3ff8000000000000!$A$1*1.5") ∷ []
unfolding digits column_name word_of size_of_parts sixteen_digits decimal_of of_15_digits magnitude places places_up_to
known_styles = refl

-- the error values by their codes
known_errors : map (λ code. formula_text (context Utf16 Biff8) (2 ∷ 0 ∷ 0x1C ∷ code ∷ [])) (0x00 ∷ 0x07 ∷ 0x0F ∷ 0x17 ∷ 0x1D ∷ 0x24 ∷ 0x2A ∷ 0x2B ∷ [])
    ≡ map Ok (codes "#NULL!" ∷ codes "#DIV/0!" ∷ codes "#VALUE!" ∷ codes "#REF!" ∷ codes "#NAME?" ∷ codes "#NUM!" ∷ codes "#N/A" ∷ codes "#GETTING_DATA" ∷ [])
known_errors = refl

-- the words that stand for themselves: truth values, an array, cells that are gone, here and on a sheet, and a
-- name of another workbook
known_words : map (λ tokens. formula_text (context Utf16 Biff8) (length tokens ∷ 0 ∷ tokens))
    ((0x01 ∷ replicate 4 0) ∷ (0x16 ∷ []) ∷ (0x1D ∷ 0 ∷ []) ∷ (0x1D ∷ 1 ∷ []) ∷ (0x20 ∷ replicate 7 0) ∷ (0x2A ∷ replicate 4 0) ∷ (0x2B ∷ replicate 8 0) ∷ (0x39 ∷ replicate 6 0) ∷ (0x3C ∷ replicate 6 0) ∷ (0x3D ∷ replicate 10 0) ∷ [])
    ≡ map Ok ([] ∷ [] ∷ codes "FALSE" ∷ codes "TRUE" ∷ codes "{PtgArray}" ∷ codes "#REF!" ∷ codes "#REF!" ∷ codes "[PtgNameX]" ∷ codes "A!#REF!" ∷ codes "A!#REF!" ∷ [])
known_words = refl

-- the tokens that print nothing: 18, and of the attributes 01, 02, 04, 08, 20 and 21
known_silent : map (λ tokens. formula_text (context Utf16 Biff8) (length (0x1D ∷ 1 ∷ tokens) ∷ 0 ∷ 0x1D ∷ 1 ∷ tokens))
    ((0x18 ∷ replicate 5 0) ∷ (0x19 ∷ 0x01 ∷ 0 ∷ 0 ∷ []) ∷ (0x19 ∷ 0x02 ∷ 0 ∷ 0 ∷ []) ∷ (0x19 ∷ 0x04 ∷ 0 ∷ 0 ∷ 0 ∷ 0 ∷ []) ∷ (0x19 ∷ 0x08 ∷ 0 ∷ 0 ∷ []) ∷ (0x19 ∷ 0x20 ∷ 0 ∷ 0 ∷ []) ∷ (0x19 ∷ 0x21 ∷ 0 ∷ 0 ∷ []) ∷ [])
    ≡ replicate 7 (Ok (codes "TRUE"))
known_silent = refl

-- operands: none, one too many, one too few
known_empty : formula_text (context Utf16 Biff8) (0 ∷ 0 ∷ []) ≡ Err (errors.InvalidFormula 0)
known_empty = refl

known_two : formula_text (context Utf16 Biff8) (6 ∷ 0 ∷ 0x1E ∷ 1 ∷ 0 ∷ 0x1E ∷ 5 ∷ 0 ∷ []) ≡ Err (errors.InvalidFormula 2)
known_two = refl

known_sum : formula_text (context Utf16 Biff8) (7 ∷ 0 ∷ 0x1E ∷ 1 ∷ 0 ∷ 0x1E ∷ 5 ∷ 0 ∷ 3 ∷ []) ≡ Ok (codes "1+5")
unfolding digits
known_sum = refl

-- the operators, 03 to 11, between two missing arguments; 0C is PtgGe
known_operators : map (λ token. formula_text (context Utf16 Biff8) (3 ∷ 0 ∷ 0x16 ∷ 0x16 ∷ token ∷ [])) (0x03 ∷ 0x04 ∷ 0x05 ∷ 0x06 ∷ 0x07 ∷ 0x08 ∷ 0x09 ∷ 0x0A ∷ 0x0B ∷ 0x0C ∷ 0x0D ∷ 0x0E ∷ 0x0F ∷ 0x10 ∷ 0x11 ∷ [])
    ≡ map Ok ((0x2B ∷ []) ∷ (0x2D ∷ []) ∷ (0x2A ∷ []) ∷ (0x2F ∷ []) ∷ (0x5E ∷ []) ∷ (0x26 ∷ []) ∷ (0x3C ∷ []) ∷ (0x3C ∷ 0x3D ∷ []) ∷ (0x3D ∷ []) ∷ (0x3E ∷ []) ∷ (0x3E ∷ 0x3D ∷ []) ∷ (0x3C ∷ 0x3E ∷ []) ∷ (0x20 ∷ []) ∷ (0x2C ∷ []) ∷ (0x3A ∷ []) ∷ [])
known_operators = refl

-- 12 to 15 and 19 10: signs, `%`, parentheses and SUM around their operand
known_signs : map (λ tokens. formula_text (context Utf16 Biff8) (length (0x1D ∷ 1 ∷ tokens) ∷ 0 ∷ 0x1D ∷ 1 ∷ tokens)) ((0x12 ∷ []) ∷ (0x13 ∷ []) ∷ (0x14 ∷ []) ∷ (0x15 ∷ []) ∷ (0x19 ∷ 0x10 ∷ 0 ∷ 0 ∷ []) ∷ [])
    ≡ map Ok (codes "+TRUE" ∷ codes "-TRUE" ∷ codes "TRUE%" ∷ codes "(TRUE)" ∷ codes "SUM(TRUE)" ∷ [])
known_signs = refl

known_one_operand : formula_text (context Utf16 Biff8) (4 ∷ 0 ∷ 0x1E ∷ 1 ∷ 0 ∷ 3 ∷ []) ≡ Err errors.StackLen
known_one_operand = refl

-- functions: their operands in order, without any, outside the table before too few operands
known_call : formula_text (context Utf16 Biff8) (9 ∷ 0 ∷ 0x1E ∷ 1 ∷ 0 ∷ 0x1E ∷ 5 ∷ 0 ∷ 0x21 ∷ 2 ∷ 0 ∷ []) ≡ Ok (codes "ROUND(1,5)")
unfolding digits
known_call = refl

known_no_operand : formula_text (context Utf16 Biff8) (3 ∷ 0 ∷ 0x41 ∷ 0 ∷ 0 ∷ []) ≡ Ok (codes "PI()")
known_no_operand = refl

known_no_function : formula_text (context Utf16 Biff8) (4 ∷ 0 ∷ 0x22 ∷ 1 ∷ 3 ∷ 0 ∷ []) ≡ Err (errors.IfTab 3)
known_no_function = refl

-- the functions of index 0 to 71, each with a space after it, and their counts of operands
known_names : flat_map (λ (f : Function). f.0 ++ (0x20 ∷ [])) shipped ≡ codes "COUNT IF ISNA ISERROR SUM AVERAGE MIN MAX ROW COLUMN NA NPV STDEV DOLLAR FIXED SIN COS TAN ATAN PI SQRT EXP LN LOG10 ABS INT SIGN ROUND LOOKUP INDEX REPT MID LEN VALUE TRUE FALSE AND OR NOT MOD DCOUNT DSUM DAVERAGE DMIN DMAX DSTDEV VAR DVAR TEXT LINEST TREND LOGEST GROWTH GOTO HALT RETURN PV FV NPER PMT RATE MIRR IRR RAND MATCH DATE TIME DAY MONTH YEAR WEEKDAY HOUR "
known_names = refl

known_counts : map (λ (f : Function). f.1) shipped ≡
    0xFF ∷ 3 ∷ 1 ∷ 1 ∷ 0xFF ∷ 0xFF ∷ 0xFF ∷ 0xFF ∷ 1 ∷ 1 ∷ 0 ∷ 0xFE ∷ 0xFF ∷ 2 ∷ 3 ∷ 1 ∷ 1 ∷ 1 ∷ 1 ∷ 0 ∷ 1 ∷ 1 ∷ 1 ∷ 1 ∷ 1 ∷ 1 ∷ 1 ∷ 2 ∷ 3 ∷ 4 ∷ 2 ∷ 3 ∷ 1 ∷ 1 ∷ 0 ∷ 0 ∷
    0xFF ∷ 0xFF ∷ 1 ∷ 2 ∷ 3 ∷ 3 ∷ 3 ∷ 3 ∷ 3 ∷ 3 ∷ 0xFF ∷ 3 ∷ 2 ∷ 4 ∷ 4 ∷ 4 ∷ 4 ∷ 1 ∷ 1 ∷ 1 ∷ 5 ∷ 5 ∷ 5 ∷ 5 ∷ 6 ∷ 3 ∷ 2 ∷ 0 ∷ 3 ∷ 3 ∷ 3 ∷ 1 ∷ 1 ∷ 1 ∷ 2 ∷ 1 ∷ []
known_counts = refl

-- so many spaces or returns by the kind, 0 to 6, of both attributes
known_spaces : map (λ kind. formula_text (context Utf16 Biff8) (5 ∷ 0 ∷ 0x16 ∷ 0x19 ∷ 0x40 ∷ kind ∷ 2 ∷ [])) (0 ∷ 1 ∷ 2 ∷ 3 ∷ 4 ∷ 5 ∷ 6 ∷ [])
    ≡ map Ok ((0x20 ∷ 0x20 ∷ []) ∷ (0x0D ∷ 0x0D ∷ []) ∷ (0x20 ∷ 0x20 ∷ []) ∷ (0x0D ∷ 0x0D ∷ []) ∷ (0x20 ∷ 0x20 ∷ []) ∷ (0x0D ∷ 0x0D ∷ []) ∷ (0x20 ∷ 0x20 ∷ []) ∷ [])
known_spaces = refl

known_spaces_semi : map (λ kind. formula_text (context Utf16 Biff8) (5 ∷ 0 ∷ 0x16 ∷ 0x19 ∷ 0x41 ∷ kind ∷ 1 ∷ [])) (0 ∷ 1 ∷ 2 ∷ 3 ∷ 4 ∷ 5 ∷ 6 ∷ [])
    ≡ map Ok ((0x20 ∷ []) ∷ (0x0D ∷ []) ∷ (0x20 ∷ []) ∷ (0x0D ∷ []) ∷ (0x20 ∷ []) ∷ (0x0D ∷ []) ∷ (0x20 ∷ []) ∷ [])
known_spaces_semi = refl

-- spaces before the last operand, and where there is none
known_space : formula_text (context Utf16 Biff8) (7 ∷ 0 ∷ 0x1E ∷ 5 ∷ 0 ∷ 0x19 ∷ 0x40 ∷ 0 ∷ 2 ∷ []) ≡ Ok (codes "  5")
unfolding digits
known_space = refl

known_lone_space : formula_text (context Utf16 Biff8) (7 ∷ 0 ∷ 0x19 ∷ 0x40 ∷ 0 ∷ 1 ∷ 0x1E ∷ 5 ∷ 0 ∷ []) ≡ Ok (codes "5")
unfolding digits
known_lone_space = refl

-- a token that is none, and tokens that are cut
known_unknown : formula_text (context Utf16 Biff8) (1 ∷ 0 ∷ 0x79 ∷ []) ≡ Err (errors.Unrecognized parts.Ptg 0x79)
known_unknown = refl

known_cut : formula_text (context Utf16 Biff8) (9 ∷ 0 ∷ 0x16 ∷ []) ≡ Err (errors.Len 11 3 parts.Rgce)
known_cut = refl

-- names: a cell, nothing, a token that is not read, and a whole record
known_defined : defined_at Biff8 (0x3A ∷ 0 ∷ 0 ∷ 1 ∷ 0 ∷ 1 ∷ 0 ∷ []) ≡ Ok (Some 0, codes "$B$2")
unfolding digits column_name word_of
known_defined = refl

known_nothing : defined_at Biff8 [] ≡ Ok (None, codes "empty rgce")
known_nothing = refl

known_unsupported : defined_at Biff8 (0x17 ∷ []) ≡ Ok (None, codes "Unsupported ptg: 17")
unfolding digits
known_unsupported = refl

known_lbl : lbl_at Utf16 Biff8 ((0 ∷ 0 ∷ 0 ∷ 5 ∷ 7 ∷ replicate 10 0) ++ (codes "Total" ++ (0x3A ∷ 0 ∷ 0 ∷ 1 ∷ 0 ∷ 1 ∷ 0 ∷ []))) ≡ Ok (codes "Total", (Some 0, codes "$B$2"))
unfolding digits column_name word_of
known_lbl = refl

-- before BIFF8: a cell and an area, both with `$`, and cells that are gone, of which the index is enough
known_early_defined : defined_at Biff5 (0x3A ∷ early_prefix ++ (1 ∷ 0xC0 ∷ 2 ∷ [])) ≡ Ok (Some 1, codes "$C$2")
unfolding digits column_name word_of
known_early_defined = refl

known_early_defined_area : defined_at Biff5 (0x3B ∷ early_prefix ++ (1 ∷ 0xC0 ∷ 9 ∷ 0x40 ∷ 2 ∷ 4 ∷ [])) ≡ Ok (Some 1, codes "$C$2:$E$10")
unfolding digits column_name word_of
known_early_defined_area = refl

known_early_gone : defined_at Biff5 (0x3C ∷ 9 ∷ 8 ∷ 7 ∷ 6 ∷ 5 ∷ 4 ∷ 3 ∷ 2 ∷ 1 ∷ 0 ∷ 1 ∷ 0 ∷ []) ≡ Ok (Some 1, codes "#REF!")
known_early_gone = refl

known_early_gone_area : defined_at Biff5 (0x3D ∷ 9 ∷ 8 ∷ 7 ∷ 6 ∷ 5 ∷ 4 ∷ 3 ∷ 2 ∷ 1 ∷ 0 ∷ 1 ∷ 0 ∷ []) ≡ Ok (Some 1, codes "#REF!")
known_early_gone_area = refl

known_early_gone_cut : defined_at Biff5 (0x3D ∷ 9 ∷ 8 ∷ 7 ∷ 6 ∷ 5 ∷ 4 ∷ 3 ∷ 2 ∷ 1 ∷ 0 ∷ 1 ∷ []) ≡ Err (errors.Len 12 11 parts.Ptg)
known_early_gone_cut = refl

-- a name without a flags byte: as many bytes from byte 14 as byte 3 says, and the tokens at the end
known_early_lbl : lbl_at Windows1252 Biff5 ((0 ∷ 0 ∷ 0 ∷ 5 ∷ 18 ∷ replicate 9 0) ++ (codes "Total" ++ (0x3A ∷ early_prefix ++ (1 ∷ 0xC0 ∷ 2 ∷ [])))) ≡ Ok (codes "Total", (Some 1, codes "$C$2"))
unfolding digits column_name word_of
known_early_lbl = refl

known_short_lbl : lbl_at Windows1252 Biff5 (replicate 13 0) ≡ Err (errors.Len 14 13 parts.Lbl)
known_short_lbl = refl
