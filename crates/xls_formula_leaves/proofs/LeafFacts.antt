-- Values from outside, so that a wrong rule in the definitions does not check: what Excel shows.
use Rattle.std.proofs.Common.{◌≡◌, ℕ, List, [], ◌∷◌, ◌++◌, Bool, refl, false, true, codes, Some, None, Ok, Err, Result, replicate, map}
use Rattle.std.specs.Char.Utf16.{utf16_chars}
use Rattle.std.specs.Fmt.{digits}
use Rattle.xls_bytes.specs.Columns.{column_name, word_of}
use Rattle.xls_data.specs.declared.errors.CellErrorType.{CellErrorType}
use Rattle.xls_record.specs.declared.version.Biff.TheVariants.{Biff2, Biff5, Biff8}
use Rattle.xls_rounding.specs.Fractions.{magnitude, places, places_up_to}
use Rattle.xls_rounding.specs.FormulaNumbers.{formula_number}
use Rattle.xls_rounding.specs.Rounding.{decimal_of, of_15_digits}
use Rattle.xls_text.specs.declared.encoding.XlsEncoding.TheVariants.{Utf16, Windows1252}
use Rattle.xls_ptg.specs.Constants.{err_of}
use Rattle.xls_ptg.specs.Operators.{operator_of}
use Rattle.xls_ptg.specs.declared.corner.Corner.{Corner}
use Rattle.xls_formula.specs.Words.{bool_word, err_text}
use Rattle.xls_shown_ptg.specs.declared.fault.Fault.TheVariants as faults
use Rattle.xls_formula_leaves.specs.Cells.{area_text, cell_text, placed}
use Rattle.xls_formula_leaves.specs.Constants.{array_text_at, quoted, str_text}
use Rattle.xls_formula_leaves.specs.Operators.{sign_of}
use Rattle.xls_formula_leaves.specs.declared.places.Place.{Place}

-- ---- operators and words

-- tokens 03 to 11: 0C is `>=` and 0D is `>`
known_operators : map (λ token. sign_of (operator_of token)) (0x03 ∷ 0x04 ∷ 0x05 ∷ 0x06 ∷ 0x07 ∷ 0x08 ∷ 0x09 ∷ 0x0A ∷ 0x0B ∷ 0x0C
    ∷ 0x0D ∷ 0x0E ∷ 0x0F ∷ 0x10 ∷ 0x11 ∷ [])
    ≡ codes "+" ∷ codes "-" ∷ codes "*" ∷ codes "/" ∷ codes "^" ∷ codes "&" ∷ codes "<" ∷ codes "<=" ∷ codes "=" ∷ codes ">="
    ∷ codes ">" ∷ codes "<>"
    ∷ codes " " ∷ codes "," ∷ codes ":" ∷ []
known_operators = refl

known_truths : map bool_word (false ∷ true ∷ []) ≡ codes "FALSE" ∷ codes "TRUE" ∷ []
known_truths = refl

-- ---- cells

abbrev corner : ℕ → ℕ → Bool → Bool → Corner
corner row column row_relative column_relative =
    record { row = row; column = column; is_row_relative = row_relative; is_column_relative = column_relative }

-- letters go on behind IV
known_cells : map cell_text (corner 0 0 true true ∷ corner 0 0 false false ∷ corner 0 26 true false ∷ corner 65535 255 false true
    ∷ corner 9 256 true true ∷ corner 0 0x3FFF true true ∷ [])
    ≡ codes "A1" ∷ codes "$A$1" ∷ codes "$AA1" ∷ codes "IV$65536" ∷ codes "IW10" ∷ codes "XFD1" ∷ []
unfolding digits column_name word_of
known_cells = refl

-- ---- areas

-- two cells as they are, also where they are one or not in order
known_areas : area_text Biff8 (corner 0 0 true true) (corner 2 1 false false)
    ∷ area_text Biff8 (corner 0 0 true true) (corner 0 0 true true)
    ∷ area_text Biff8 (corner 8 3 false true) (corner 1 1 true false) ∷ []
    ≡ codes "A1:$B$3" ∷ codes "A1:A1" ∷ codes "D$9:$B2" ∷ []
unfolding digits column_name word_of
known_areas = refl

-- over columns 0 to 255 by its rows, else over all rows by its columns; the flags are those of what is written
known_whole_areas : area_text Biff8 (corner 0 0 false true) (corner 2 0xFF true false)
    ∷ area_text Biff8 (corner 0 0 false true) (corner 0xFFFF 2 true false)
    ∷ area_text Biff8 (corner 0 0 false true) (corner 0xFFFF 0xFF false true) ∷ []
    ≡ codes "$1:3" ∷ codes "A:$C" ∷ codes "$1:$65536" ∷ []
unfolding digits column_name word_of
known_whole_areas = refl

-- before BIFF8 a sheet has 16384 rows
known_early_whole_areas : area_text Biff5 (corner 0 1 true true) (corner 0x3FFF 1 true true)
    ∷ area_text Biff2 (corner 0 0 true true) (corner 0x3FFF 0xFF true true)
    ∷ area_text Biff8 (corner 0 1 true true) (corner 0x3FFF 1 true true) ∷ []
    ≡ codes "B:B" ∷ codes "1:16384" ∷ codes "B1:B16384" ∷ []
unfolding digits column_name word_of
known_early_whole_areas = refl

-- none of these is whole
known_no_whole_areas : area_text Biff8 (corner 0 1 true true) (corner 2 0xFF true true)
    ∷ area_text Biff8 (corner 0 0xFF true true) (corner 2 0 true true)
    ∷ area_text Biff8 (corner 1 0 true true) (corner 0xFFFF 0 true true)
    ∷ area_text Biff8 (corner 0 0 true true) (corner 2 0x100 true true) ∷ []
    ≡ codes "B1:IV3" ∷ codes "IV1:A3" ∷ codes "A2:A65536" ∷ codes "A1:IW3" ∷ []
unfolding digits column_name word_of
known_no_whole_areas = refl

-- ---- offsets

abbrev at : ℕ → ℕ → Place
at row column = record { row = row; column = column }

-- offsets of 14 and of 8 bits; what isn't relative is no offset
known_offsets : map (λ c. placed Biff8 (at 1 0) c) (corner 0xFFFF 0x3FFF true true ∷ corner 0xFFFE 0xFF true true
    ∷ corner 9 0x100 true true ∷ corner 0xFFFF 0x3FFF false false ∷ [])
    ≡ corner 0 255 true true ∷ corner 65535 255 true true ∷ corner 10 0 true true ∷ corner 65535 16383 false false ∷ []
known_offsets = refl

known_early_offsets : map (λ c. placed Biff5 (at 1 200) c) (corner 0x3FFF 0xFF true true ∷ corner 0x3FFE 60 true true
    ∷ corner 0x3FFF 0xFF true false ∷ [])
    ≡ corner 0 199 true true ∷ corner 16383 4 true true ∷ corner 0 255 true false ∷ []
known_early_offsets = refl

-- ---- numbers

-- 15 digits half up, 14 beyond 98; the forms and their borders
known_numbers : map formula_number (0x3FF0_0068_DB8B_AC71 ∷ 0x405E_DD3C_07FB_4C99 ∷ 0x3EE9_E409_3026_78BA ∷ 0x3EE9_E409_301B_5A02
    ∷ 0x43E5_6A95_319D_63E1 ∷ 0x441A_C53A_7E04_BCDA ∷ 0x5482_0FE0_BA17_F46D ∷ 0x3C32_725D_D1D2_43AB ∷ 0x3BFD_83C9_4FB6_D2AB
    ∷ 0x7FEF_FFFF_FFFF_FFFF ∷ 0x7FF8_0000_0000_0000 ∷ 0xFFF8_0000_0000_0000 ∷ 0x0000_0000_0000_0000 ∷ 0x8000_0000_0000_0000
    ∷ 0x800F_FFFF_FFFF_FFFF ∷ 0xB59D_EE7A_4AD4_B81F ∷ [])
    ≡ codes "1.0001" ∷ codes "123.456789012346" ∷ codes "1.23456789012346E-05" ∷ codes "0.0000123456789"
    ∷ codes "12345678901234600000" ∷ codes "1.23456789012346E+20" ∷ codes "1.2345678901235E+99" ∷ codes "0.000000000000000001"
    ∷ codes "1E-19"
    ∷ codes "1.7976931348623E+308" ∷ codes "2.6965397022935E+308" ∷ codes "2.6965397022935E+308" ∷ codes "0" ∷ codes "-0"
    ∷ codes "-0" ∷ codes "-2E-50" ∷ []
unfolding decimal_of of_15_digits magnitude places places_up_to digits
known_numbers = refl

-- ---- strings

known_quotes : map quoted ([] ∷ codes "a" ∷ codes "\"" ∷ codes "a\"b\"\"" ∷ []) ≡ codes "\"\"" ∷ codes "\"a\"" ∷ codes "\"\"\"\""
    ∷ codes "\"a\"\"b\"\"\"\"\"" ∷ []
known_quotes = refl

-- units of one byte and of two, of which a surrogate by itself is U+FFFD; before BIFF8 by the page
known_strings : str_text Windows1252 (Some false) (0x80 ∷ 0x22 ∷ []) 2 ∷ str_text Windows1252 (Some true) (0xAC ∷ 0x20 ∷ 0x22 ∷ 0x00
    ∷ 0x00 ∷ 0xD8 ∷ []) 3
    ∷ str_text Windows1252 None (0x80 ∷ 0x41 ∷ []) 2 ∷ []
    ≡ (0x22 ∷ 0x80 ∷ 0x22 ∷ 0x22 ∷ 0x22 ∷ []) ∷ (0x22 ∷ 0x20AC ∷ 0x22 ∷ 0x22 ∷ 0xFFFD ∷ 0x22 ∷ []) ∷ (0x22 ∷ 0x20AC ∷ 0x41 ∷ 0x22
    ∷ []) ∷ []
unfolding utf16_chars
known_strings = refl

-- ---- constant arrays

-- two rows of three columns: nothing, 1.5, a string; TRUE, an error value, FALSE
known_array : array_text_at Utf16 Biff8 (0x02 ∷ 0x01 ∷ 0x00 ∷ 0x00 ∷ replicate 8 0 ++ (0x01 ∷ replicate 6 0 ++ (0xF8 ∷ 0x3F ∷ 0x02
    ∷ 2 ∷ 0 ∷ 0 ∷ codes "a\""
    ++ (0x04 ∷ 1 ∷ replicate 7 0 ++ (0x10 ∷ 0x2A ∷ replicate 7 0 ++ (0x04 ∷ replicate 8 0 ++ (0x77 ∷ [])))))))
    ≡ Ok (codes "{,1.5,\"a\"\"\";TRUE,#N/A,FALSE}", 0x77 ∷ [])
unfolding decimal_of of_15_digits magnitude places places_up_to digits
known_array = refl

-- one column of two rows, no row, and an array without its last value
known_column : array_text_at Windows1252 Biff5 (0x01 ∷ 0x02 ∷ 0x00 ∷ 0x02 ∷ 1 ∷ 0x80 ∷ 0x02 ∷ 0 ∷ []) ≡ Ok (
  0x7B ∷ 0x22 ∷ 0x20AC
      ∷ 0x22 ∷ codes ";\"\"}",
  [],
)
known_column = refl

known_no_rows : array_text_at Windows1252 Biff5 (0x05 ∷ 0x00 ∷ 0x00 ∷ 0x77 ∷ []) ≡ Ok (codes "{}", 0x77 ∷ [])
known_no_rows = refl

known_cut_array : array_text_at Windows1252 Biff8 (0x01 ∷ 0x00 ∷ 0x00 ∷ 0x00 ∷ replicate 8 0) ≡ Err (faults.ExtraArray 1 0)
known_cut_array = refl

-- ---- error values, by their codes

abbrev error_word : {E : Type 0} → Result CellErrorType E → List ℕ
error_word (Ok error) = err_text error
error_word (Err e) = []

known_errors : map (λ code. error_word (err_of code)) (0x00 ∷ 0x07 ∷ 0x0F ∷ 0x17 ∷ 0x1D ∷ 0x24 ∷ 0x2A ∷ 0x2B ∷ [])
    ≡ codes "#NULL!" ∷ codes "#DIV/0!" ∷ codes "#VALUE!" ∷ codes "#REF!" ∷ codes "#NAME?" ∷ codes "#NUM!" ∷ codes "#N/A"
    ∷ codes "#GETTING_DATA" ∷ []
known_errors = refl
