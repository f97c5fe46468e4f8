-- Known values, in the bytes of records, so that a wrong rule in the definitions does not check.
use Rattle.std.proofs.Common.{◌≡◌, ℕ, ◌+◌, List, [], ◌∷◌, ◌++◌, length, map, replicate, refl, true, false, Ok, Err, codes}
use Rattle.std.specs.Fmt.{digits}
use Rattle.std.specs.Str.{chars}
use Rattle.xls_bytes.specs.Columns.{column_name, word_of}
use Rattle.xls_bytes.specs.Numbers.{le16}
use Rattle.xls_stream.specs.Stream.{record_bytes}
use Rattle.xls_stream.specs.declared.part.Part.TheVariants as parts
use Rattle.xls_text.specs.declared.encoding.XlsEncoding.TheVariants.{Windows1252}
use Rattle.xls_record.specs.declared.error.XlsError.TheVariants as errors
use Rattle.xls_record.specs.declared.version.Biff.TheVariants.{Biff5, Biff8}
use Rattle.xls_parts.specs.PartRecords.{records_within, until_eof, outer_from, own_from}
use Rattle.xls_bodies.specs.Bodies.{continued}
use Rattle.xls_formula_names.specs.Tables.{built_in_names}
use Rattle.xls_shown_ptg.specs.Reading.{shared}
use Rattle.xls_shown_ptg.specs.ShownTokens.{basic_by, by_link, classed_by, mem_by}
use Rattle.xls_shown_ptg.specs.declared.fault.Fault.TheVariants as faults
use Rattle.xls_shared_formulas.specs.Contents.{inputs_at}
use Rattle.xls_shared_formulas.specs.Found.{formulas_from}
use Rattle.xls_shared_formulas.specs.declared.fields.CellPlace.{CellPlace}
use Rattle.xls_shared_formulas.specs.declared.fields.CellRange.{CellRange}
use Rattle.xls_shared_formulas.specs.declared.fields.FormulaKind.TheVariants.{Shared, Array, Table}
use Rattle.xls_defined_names.specs.Kinds.{kinds_of}
use Rattle.xls_defined_names.specs.Names.{names_of}
use Rattle.xls_shown_formulas.specs.Books.{Book, ShownName, book_of, shown_name}
use Rattle.xls_shown_formulas.specs.Refusals.{told_of_cell, told_of_name}
use Rattle.xls_shown_formulas.specs.Sheets.{ShownRange, in_braces, place_in, sheet_of}
use Rattle.xls_shown_formulas.specs.Tables.{table_text}
use Rattle.xls_shown_formulas.specs.Workbooks.{shown_sheet, shown_workbook}

abbrev at : ℕ → ℕ → CellPlace
at row column = record { row = row; column = column }

abbrev ranging : ℕ → ℕ → ℕ → ℕ → CellRange
ranging first_row last_row first_column last_column =
    record { first_row = first_row; last_row = last_row; first_column = first_column; last_column = last_column }

-- ---- data tables

-- the inputs are B10 and IW65536; of one table the flags of the other kinds too
abbrev table_body : ℕ → List ℕ
table_body flags = replicate 6 9 ++ le16 flags ++ le16 9 ++ le16 1 ++ le16 65535 ++ le16 256

pub known_tables : map (λ flags. table_text (inputs_at (table_body flags))) (0x08 ∷ 0x04 ∷ 0x00 ∷ 0x0C ∷ [])
    ≡ codes "TABLE(B10,IW65536)" ∷ codes "TABLE(B10,)" ∷ codes "TABLE(,B10)" ∷ codes "TABLE(B10,IW65536)" ∷ []
unfolding digits column_name word_of
known_tables = refl

-- inputs that are gone
pub known_gone : map (λ flags. table_text (inputs_at (table_body flags))) (0x18 ∷ 0x28 ∷ 0x38 ∷ 0x14 ∷ 0x24 ∷ 0x10 ∷ 0x20 ∷ [])
    ≡ codes "TABLE(#REF!,IW65536)" ∷ codes "TABLE(B10,#REF!)" ∷ codes "TABLE(#REF!,#REF!)" ∷ codes "TABLE(#REF!,)" ∷ codes "TABLE(B10,)"
    ∷ codes "TABLE(,#REF!)" ∷ codes "TABLE(,B10)" ∷ []
unfolding digits column_name word_of
known_gone = refl

-- ---- what isn't spelled

pub known_cell_texts : map (told_of_cell (at 65535 255)) (Ok (codes "A1") ∷ Ok [] ∷ Err (faults.NoFormula 1 2) ∷ Err (faults.NoTable 65535 0)
    ∷ Err (faults.Tbl 4 3) ∷ Err (faults.Xls (errors.Len 4 0 parts.PtgExp)) ∷ Err (faults.Xls (errors.Len 9 3 parts.Rgce))
    ∷ Err (faults.Eptg 0x1D) ∷ Err (faults.SerAr 0x05) ∷ Err (faults.ExtraArray 8 7) ∷ [])
    ≡ codes "A1" ∷ [] ∷ chars (codes "Unrecognised formula for cell (65535, 255): No formula at (1, 2)")
    ∷ chars (codes "Unrecognised formula for cell (65535, 255): No table at (65535, 0)")
    ∷ chars (codes "Unrecognised formula for cell (65535, 255): Invalid PtgTbl length, expected at least 4, found 3")
    ∷ chars (codes "Unrecognised formula for cell (65535, 255): Invalid PtgExp length, expected at least 4, found 0")
    ∷ chars (codes "Unrecognised formula for cell (65535, 255): Invalid rgce length, expected at least 9, found 3")
    ∷ chars (codes "Unrecognised formula for cell (65535, 255): Unrecognized eptg: 0x1D")
    ∷ chars (codes "Unrecognised formula for cell (65535, 255): Unrecognized SerAr: 0x5")
    ∷ chars (codes "Unrecognised formula for cell (65535, 255): Invalid PtgExtraArray length, expected at least 8, found 7") ∷ []
unfolding digits
known_cell_texts = refl

pub known_name_texts : map told_of_name (Ok (codes "A1") ∷ Ok [] ∷ Err (faults.Xls (errors.Len 2 1 parts.NameFormula)) ∷ Err (faults.Eptg 0x0C) ∷ [])
    ≡ codes "A1" ∷ [] ∷ chars (codes "Unrecognised formula: Invalid name formula length, expected at least 2, found 1")
    ∷ chars (codes "Unrecognised formula: Unrecognized eptg: 0xC") ∷ []
unfolding digits
known_name_texts = refl

-- ---- formulas of ranges

pub known_places : map (λ kind. place_in kind (ranging 1 2 3 4) (at 7 8)) (Shared ∷ Array ∷ Table ∷ []) ≡ at 7 8 ∷ at 1 3 ∷ at 7 8 ∷ []
known_places = refl

pub known_braces : map (λ kind. in_braces kind (codes "A1")) (Shared ∷ Array ∷ Table ∷ []) ≡ codes "A1" ∷ codes "{=A1}" ∷ codes "{=A1}" ∷ []
known_braces = refl

-- ---- a workbook

-- flags, a key, the counts of the name and of the tokens, two bytes, the number of the sheet, four bytes, a name of one character, and tokens
abbrev lbl : ℕ → ℕ → ℕ → List ℕ → List ℕ
lbl flags itab name tokens =
    record_bytes 0x018 (le16 flags ++ 0 ∷ 1 ∷ le16 (length tokens) ++ 0 ∷ 0 ∷ le16 itab ++ 0 ∷ 0 ∷ 0 ∷ 0 ∷ 0x00 ∷ name ∷ tokens)

-- a cell on the first sheet: row FFFE and column 3FFF, both relative
abbrev ref3d : List ℕ
ref3d = 0x3A ∷ 0 ∷ 0 ∷ 0xFE ∷ 0xFF ∷ 0xFF ∷ 0xFF ∷ []

-- the name of a number
abbrev name_token : ℕ → List ℕ
name_token number = 0x23 ∷ le16 number ++ 0 ∷ 0 ∷ []

-- this workbook, its first sheet, and names: of the workbook by offsets, of the second sheet, of a sheet that isn't there without tokens,
-- of the first sheet, and one whose tokens are no formula
abbrev stream : List ℕ
stream = record_bytes 0x809 [] ++ record_bytes 0x1AE (2 ∷ 0 ∷ 0x01 ∷ 0x04 ∷ []) ++ record_bytes 0x017 (1 ∷ 0 ∷ replicate 6 0)
    ++ lbl 0x0000 0 0x41 ref3d ++ lbl 0x0001 2 0x42 (name_token 4) ++ lbl 0x0002 9 0x43 [] ++ lbl 0x0021 1 0x06 (name_token 2)
    ++ lbl 0x0008 0 0x44 (0x03 ∷ []) ++ lbl 0x0000 0 0x45 (0x4C ∷ 0xFF ∷ 0xFF ∷ 0xFF ∷ 0xC0 ∷ []) ++ record_bytes 0x00A []

abbrev sheets : List (List ℕ)
sheets = codes "Data" ∷ codes "More" ∷ []

abbrev named : List ℕ → List ℕ → ℕ → List ℕ → ShownName
named name scope flags text = record { name = name; scope = scope; kinds = kinds_of flags; text = text }

abbrev book : Book
book = book_of Biff8 Windows1252 stream sheets

pub known_names : map (shown_name book) book.names
    ≡ named (codes "A") [] 0x0000 (codes "Data!IV65535") ∷ named (codes "B") (codes "More") 0x0001 (codes "Data!Print_Area")
    ∷ named (codes "C") (codes "#REF") 0x0002 [] ∷ named (codes "Print_Area") (codes "Data") 0x0021 (codes "More!B")
    ∷ named (codes "D") [] 0x0008 (chars (codes "Unrecognised formula: Invalid stack length")) ∷ named (codes "E") [] 0x0000 (codes "IV65536") ∷ []
unfolding records_within until_eof continued names_of built_in_names shared basic_by classed_by by_link mem_by digits column_name word_of
known_names = refl

-- ---- a sheet

-- a cell, 16 bytes, and the tokens
abbrev formula_record : ℕ → ℕ → List ℕ → List ℕ
formula_record row column tokens =
    record_bytes 0x006 (le16 row ++ le16 column ++ replicate 16 0 ++ le16 (length tokens) ++ tokens)

-- rows, columns, so many bytes, and the tokens
abbrev range_record : ℕ → CellRange → ℕ → List ℕ → List ℕ
range_record typ range gap tokens =
    record_bytes typ (le16 range.first_row ++ le16 range.last_row ++ range.first_column ∷ range.last_column ∷ replicate gap 0
    ++ le16 (length tokens) ++ tokens)

-- the row above and the column before
abbrev above : List ℕ
above = 0x4C ∷ 0xFF ∷ 0xFF ∷ 0xFF ∷ 0xC0 ∷ []

abbrev points : ℕ → ℕ → ℕ → List ℕ
points token row column = token ∷ le16 row ++ le16 column

-- a shared formula for B3:B4, whose anchor is B3; B2 by its own tokens; an array for C5:C6; a table for D8:D9 with the inputs A1 and B1;
-- cells that point to none, and one outside the range; an array that can't be spelled; a name of another sheet
abbrev part : List ℕ
part = record_bytes 0x809 []
    ++ formula_record 2 1 (points 1 2 1) ++ range_record 0x4BC (ranging 2 3 1 1) 2 above ++ formula_record 3 1 (points 1 2 1)
    ++ formula_record 1 1 ref3d
    ++ formula_record 4 2 (points 1 4 2) ++ range_record 0x221 (ranging 4 5 2 2) 6 above ++ formula_record 5 2 (points 1 4 2)
    ++ formula_record 7 3 (points 2 7 3)
    ++ record_bytes 0x236 (7 ∷ 0 ∷ 8 ∷ 0 ∷ 3 ∷ 3 ∷ 0x0C ∷ 0 ∷ 0 ∷ 0 ∷ 0 ∷ 0 ∷ 0 ∷ 0 ∷ 1 ∷ 0 ∷ [])
    ++ formula_record 8 3 (points 2 7 3) ++ formula_record 9 3 (points 2 7 3) ++ formula_record 9 9 (points 1 9 9)
    ++ formula_record 10 0 (points 1 10 0) ++ range_record 0x221 (ranging 10 10 0 0) 6 (0x03 ∷ [])
    ++ formula_record 11 0 (name_token 2) ++ formula_record 12 0 [] ++ record_bytes 0x00A []

abbrev array : CellRange → List ℕ → ShownRange
array range text = record { range = range; is_table = false; text = text }

abbrev data_table : CellRange → List ℕ → ShownRange
data_table range text = record { range = range; is_table = true; text = text }

-- a shared formula counts from each cell, an array from its first; a cell's own offsets on sheets are no offsets
pub known_sheet : shown_sheet (sheet_of book 1 1000 part) ≡ record {
  ranges = array (ranging 4 5 2 2) (codes "B4") ∷ data_table (ranging 7 8 3 3) (codes "TABLE(A1,B1)")
      ∷ array (ranging 10 10 0 0) (chars (codes "Unrecognised formula for cell (10, 0): Invalid stack length")) ∷ [];
  cells = ((1, 1), codes "Data!XFD65535") ∷ ((2, 1), codes "A2") ∷ ((3, 1), codes "A3") ∷ ((4, 2), codes "{=B4}") ∷ ((5, 2), codes "{=B4}")
      ∷ ((7, 3), codes "{=TABLE(A1,B1)}") ∷ ((8, 3), codes "{=TABLE(A1,B1)}")
      ∷ ((9, 3), chars (codes "Unrecognised formula for cell (9, 3): No table at (7, 3)"))
      ∷ ((9, 9), chars (codes "Unrecognised formula for cell (9, 9): No formula at (9, 9)"))
      ∷ ((10, 0), chars (codes "Unrecognised formula for cell (10, 0): Invalid stack length")) ∷ ((11, 0), codes "More!B")
      ∷ ((12, 0), chars (codes "Unrecognised formula for cell (12, 0): Invalid formula (stack size: 0)")) ∷ [];
}
unfolding records_within until_eof outer_from own_from continued formulas_from names_of built_in_names shared basic_by classed_by by_link mem_by
    digits column_name word_of
known_sheet = refl

-- the second sheet sees its own name alone
pub known_second_sheet : shown_sheet (sheet_of book 2 0 (formula_record 11 0 (name_token 2)))
    ≡ record { ranges = []; cells = ((11, 0), codes "B") ∷ [] }
unfolding records_within until_eof outer_from own_from continued formulas_from names_of built_in_names shared basic_by classed_by by_link mem_by
    digits column_name word_of
known_second_sheet = refl

-- ---- before BIFF8

-- the sheet of this name
abbrev extern_sheet : List ℕ → List ℕ
extern_sheet name = record_bytes 0x017 (length name ∷ 0x03 ∷ name)

-- A1 on the sheet of the first ExternSheet
abbrev early_ref3d : List ℕ
early_ref3d = 0x3A ∷ 1 ∷ 0 ∷ replicate 12 0 ++ 0x00 ∷ 0xC0 ∷ 0x00 ∷ []

-- a name of the workbook with these tokens; the parts of two sheets, of which the second has an ExternSheet of its own
abbrev early_globals : List ℕ
early_globals = record_bytes 0x809 [] ++ extern_sheet (codes "Data")
    ++ record_bytes 0x018 (0 ∷ 0 ∷ 0 ∷ 1 ∷ le16 (length early_ref3d) ++ replicate 8 0 ++ 0x41 ∷ early_ref3d) ++ record_bytes 0x00A []

abbrev early_part : List ℕ → List ℕ
early_part records = record_bytes 0x809 [] ++ records ++ formula_record 0 0 early_ref3d ++ record_bytes 0x00A []

abbrev early_stream : List ℕ
early_stream = early_globals ++ early_part [] ++ early_part (extern_sheet (codes "More"))

pub known_early : shown_workbook Biff5 Windows1252 early_stream sheets
    (length early_globals ∷ (length early_globals + length (early_part [])) ∷ 60000 ∷ []) ≡ record {
      names = named (codes "A") [] 0x0000 (codes "Data!A1") ∷ [];
      sheets = record { ranges = []; cells = ((0, 0), codes "Data!A1") ∷ [] } ∷ record { ranges = []; cells = ((0, 0), codes "More!A1") ∷ [] }
          ∷ record { ranges = []; cells = [] } ∷ [];
    }
unfolding records_within until_eof outer_from own_from continued formulas_from names_of built_in_names shared basic_by classed_by by_link mem_by
    digits column_name word_of
known_early = refl
