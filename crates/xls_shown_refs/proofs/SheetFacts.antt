-- Known values of sheets, in the bytes of records, so that a wrong rule in the definitions does not check.
use Rattle.std.proofs.Common.{◌≡◌, ℕ, List, [], ◌∷◌, ◌++◌, length, replicate, refl, codes}
use Rattle.xls_bytes.specs.Columns.{column_name, word_of}
use Rattle.xls_bytes.specs.Numbers.{le16}
use Rattle.std.specs.Fmt.{digits}
use Rattle.xls_stream.specs.Stream.{record_bytes}
use Rattle.xls_text.specs.declared.encoding.XlsEncoding.TheVariants.{Windows1252}
use Rattle.xls_record.specs.declared.version.Biff.TheVariants.{Biff5, Biff8}
use Rattle.xls_parts.specs.PartRecords.{records_within, until_eof, outer_from, own_from}
use Rattle.xls_bodies.specs.Bodies.{continued}
use Rattle.xls_formula_names.specs.Tables.{built_in_names}
use Rattle.xls_shown_ptg.specs.Reading.{shared}
use Rattle.xls_shown_ptg.specs.ShownTokens.{basic_by, by_link, classed_by, mem_by}
use Rattle.xls_shared_formulas.specs.Found.{formulas_from}
use Rattle.xls_defined_names.specs.Names.{names_of}
use Rattle.xls_shown_formulas.specs.Books.{Book, book_of}
use Rattle.xls_shown_formulas.specs.Sheets.{sheet_of}
use Rattle.xls_shown_refs.specs.Items.{Citation}
use Rattle.xls_shown_refs.specs.Sheets.{sheet_cites}
use Rattle.xls_shown_refs.proofs.Known.{cell, plus}

-- ---- records

-- flags, a key, the counts of the name and of the tokens, eight bytes, a name of one character, and tokens
abbrev lbl : List ℕ → List ℕ
lbl tokens = record_bytes 0x018 (0 ∷ 0 ∷ 0 ∷ 1 ∷ le16 (length tokens) ++ (replicate 8 0 ++ (0x00 ∷ 0x4E ∷ tokens)))

-- a cell, 16 bytes, and so many bytes of tokens
abbrev formula_of : ℕ → ℕ → ℕ → List ℕ → List ℕ
formula_of row column cce tokens = record_bytes 0x006 (le16 row ++ (le16 column ++ (replicate 16 0 ++ (le16 cce ++ tokens))))

abbrev formula_record : ℕ → ℕ → List ℕ → List ℕ
formula_record row column tokens = formula_of row column (length tokens) tokens

-- rows, columns, so many bytes, and so many bytes of tokens
abbrev range_record : ℕ → ℕ → ℕ → ℕ → ℕ → ℕ → ℕ → List ℕ → List ℕ
range_record typ first_row last_row first_column last_column gap cce tokens =
    record_bytes typ (le16 first_row ++ (le16 last_row ++ (first_column ∷ last_column ∷ replicate gap 0 ++ (le16 cce ++ tokens))))

-- the row above and the column before; a cell on the first sheet, of row FFFE and column 3FFF, both relative; a name
abbrev above : List ℕ
above = 0x4C ∷ 0xFF ∷ 0xFF ∷ 0xFF ∷ 0xC0 ∷ []

abbrev ref3d : List ℕ
ref3d = 0x3A ∷ 0 ∷ 0 ∷ 0xFE ∷ 0xFF ∷ 0xFF ∷ 0xFF ∷ []

abbrev name_token : ℕ → List ℕ
name_token number = 0x23 ∷ le16 number ++ (0 ∷ 0 ∷ [])

-- to the formula of a range of a cell
abbrev points : ℕ → ℕ → ℕ → List ℕ
points token row column = token ∷ le16 row ++ le16 column

-- ---- BIFF8

-- this workbook, its first sheet, and two names by offsets
abbrev stream : List ℕ
stream =
    record_bytes 0x809 []
    ++ (record_bytes 0x1AE (2 ∷ 0 ∷ 0x01 ∷ 0x04 ∷ []) ++ (record_bytes 0x017 (1 ∷ 0 ∷ replicate 6 0) ++ (lbl ref3d ++ (lbl above ++ record_bytes 0x00A []))))

abbrev sheets : List (List ℕ)
sheets = codes "Data" ∷ codes "More" ∷ []

abbrev book : Book
book = book_of Biff8 Windows1252 stream sheets

-- B2 by its own tokens; a shared formula for B3:B4; an array for C5:C6; a table for D8:D9 with the inputs A1 and B1, and a cell that points
-- to none of it; a cell that points to none; an array that is cut; the two names; a formula that is cut; an array for C15:C16
-- of the second name
abbrev part : List ℕ
part =
    record_bytes 0x809 []
    ++ (formula_record 1 1 ref3d
    ++ (formula_record 2 1 (points 1 2 1) ++ (range_record 0x4BC 2 3 1 1 2 5 above ++ (formula_record 3 1 (points 1 2 1)
    ++ (formula_record 4 2 (points 1 4 2) ++ (range_record 0x221 4 5 2 2 6 5 above ++ (formula_record 5 2 (points 1 4 2)
    ++ (formula_record 7 3 (points 2 7 3)
    ++ (record_bytes 0x236 (7 ∷ 0 ∷ 8 ∷ 0 ∷ 3 ∷ 3 ∷ 0x0C ∷ 0 ∷ 0 ∷ 0 ∷ 0 ∷ 0 ∷ 0 ∷ 0 ∷ 1 ∷ 0 ∷ [])
    ++ (formula_record 8 3 (points 2 7 3) ++ (formula_record 9 3 (points 2 7 3) ++ (formula_record 9 9 (points 1 9 9)
    ++ (formula_record 10 0 (points 1 10 0) ++ (range_record 0x221 10 10 0 0 6 6 above
    ++ (formula_record 11 0 (name_token 1) ++ (formula_record 12 5 (name_token 2) ++ (formula_of 13 0 6 above
    ++ (formula_record 14 2 (points 1 14 2) ++ (range_record 0x221 14 15 2 2 6 5 (name_token 2) ++ (formula_record 15 2 (points 1 14 2)
    ++ record_bytes 0x00A []))))))))))))))))))))

abbrev in_data : ℕ → ℕ → Citation
in_data row column = cell (codes "Data") row column

-- a shared formula counts from each cell, an array from its first, and a name from the citing cell, in an array too
known_sheet : sheet_cites (sheet_of book 1 1000 part)
    ≡ ((1, 1), in_data 65534 16383 ∷ []) ∷ ((2, 1), in_data 1 0 ∷ []) ∷ ((3, 1), in_data 2 0 ∷ []) ∷ ((4, 2), in_data 3 1 ∷ []) ∷ ((5, 2), in_data 3 1 ∷ [])
    ∷ ((7, 3), in_data 0 0 ∷ in_data 0 1 ∷ []) ∷ ((8, 3), in_data 0 0 ∷ in_data 0 1 ∷ []) ∷ ((9, 3), []) ∷ ((9, 9), []) ∷ ((10, 0), [])
    ∷ ((11, 0), in_data 9 255 ∷ []) ∷ ((12, 5), in_data 11 4 ∷ []) ∷ ((13, 0), [])
    ∷ ((14, 2), in_data 13 1 ∷ []) ∷ ((15, 2), in_data 14 1 ∷ []) ∷ []
unfolding records_within until_eof outer_from own_from continued formulas_from names_of built_in_names shared basic_by classed_by by_link mem_by
    digits column_name word_of
known_sheet = refl

-- in the second sheet a name's own cells are that sheet's
known_second_sheet : sheet_cites (sheet_of book 2 0 (formula_record 12 5 (name_token 2))) ≡ ((12, 5), cell (codes "More") 11 4 ∷ []) ∷ []
unfolding records_within until_eof outer_from own_from continued formulas_from names_of built_in_names shared basic_by classed_by by_link mem_by
    digits column_name word_of
known_second_sheet = refl

-- ---- before BIFF8

-- the sheet of this name; A1 on the sheet of the first ExternSheet; the first name
abbrev extern_sheet : List ℕ → List ℕ
extern_sheet name = record_bytes 0x017 (length name ∷ 0x03 ∷ name)

abbrev early_ref3d : List ℕ
early_ref3d = 0x3A ∷ 1 ∷ 0 ∷ replicate 12 0 ++ (0x00 ∷ 0xC0 ∷ 0x00 ∷ [])

abbrev early_name : List ℕ
early_name = 0x23 ∷ 1 ∷ 0 ∷ replicate 12 0

abbrev early_stream : List ℕ
early_stream =
    record_bytes 0x809 []
    ++ (extern_sheet (codes "Data")
    ++ (record_bytes 0x018 (0 ∷ 0 ∷ 0 ∷ 1 ∷ le16 (length early_ref3d) ++ (replicate 8 0 ++ (0x41 ∷ early_ref3d))) ++ record_bytes 0x00A []))

-- a sheet with an ExternSheet of its own, by which a name doesn't refer
known_early : sheet_cites (sheet_of (book_of Biff5 Windows1252 early_stream sheets) 2 1000
    (record_bytes 0x809 [] ++ (extern_sheet (codes "More") ++ (formula_record 0 0 (early_name ++ (early_ref3d ++ plus)) ++ record_bytes 0x00A []))))
    ≡ ((0, 0), in_data 0 0 ∷ cell (codes "More") 0 0 ∷ []) ∷ []
unfolding records_within until_eof outer_from own_from continued formulas_from names_of built_in_names shared basic_by classed_by by_link mem_by
    digits column_name word_of
known_early = refl
