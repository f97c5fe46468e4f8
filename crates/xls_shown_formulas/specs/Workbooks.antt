-- The formulas of a workbook as Excel shows them.
use Rattle.std.specs.Prelude.{ℕ, ◌+◌, List, [], ◌∷◌, drop, map}
use Rattle.xls_text.specs.declared.encoding.XlsEncoding.{XlsEncoding}
use Rattle.xls_record.specs.declared.version.Biff.{Biff}
use Rattle.xls_parts.specs.PartRecords.{own_records}
use Rattle.xls_shared_formulas.specs.Found.{lines_in}
use Rattle.xls_formula_cells.specs.Formulas.{places_of}
use Rattle.xls_formula_cells.specs.declared.place.FormulaPlace.{FormulaPlace}
use Rattle.xls_shown_formulas.specs.Books.{Book, ShownName, book_of, shown_name}
use Rattle.xls_shown_formulas.specs.Sheets.{Sheet, ShownCell, ShownRange, sheet_of, shown_cell, shown_range}

-- where the formulas of cells stand: by row and then by column, of those of one cell the last in the stream
abbrev pub places_in : Sheet → List FormulaPlace
places_in s = places_of (own_records s.known.offset s.known.part)

-- those of a sheet: the arrays and data tables that count, in the order of the stream, and the cells, by row and then by column
pub record ShownSheet : Type 0 where
  pub ranges : List ShownRange
  pub cells : List ShownCell

abbrev pub shown_sheet : Sheet → ShownSheet
shown_sheet s = record { ranges = map (shown_range s) (lines_in s.known); cells = map (shown_cell s) (places_in s) }

-- those of sheets whose parts begin at these offsets of the stream, the first of this number
abbrev pub shown_sheets : Book → ℕ → List ℕ → List ShownSheet
shown_sheets book number [] = []
shown_sheets book number (offset ∷ offsets) =
    shown_sheet (sheet_of book number offset (drop offset book.stream)) ∷ shown_sheets book (number + 1) offsets

-- those of a workbook: the defined names in the order of their records, and the sheets
pub record ShownWorkbook : Type 0 where
  pub names : List ShownName
  pub sheets : List ShownSheet

-- by its version, page and stream, the names of its sheets, and where their parts begin
abbrev pub shown_by : Book → List ℕ → ShownWorkbook
shown_by book offsets = record { names = map (shown_name book) book.names; sheets = shown_sheets book 1 offsets }

abbrev pub shown_workbook : Biff → XlsEncoding → List ℕ → List (List ℕ) → List ℕ → ShownWorkbook
shown_workbook version page stream sheets offsets = shown_by (book_of version page stream sheets) offsets
