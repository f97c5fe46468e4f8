-- What a workbook shows, and how the values of the code are seen.
use Rattle.std.specs.Prelude.{ℕ, String, List, map, Bool, Option, unwrap_or}
use Rattle.std.specs.Global.{Global}
use Rattle.xls_data.specs.Sheets.{SheetContent}
use Rattle.xls_data.specs.declared.values.Data.{Data}
use Rattle.xls_dates.specs.declared.formats.CellFormat.{CellFormat}
use Rattle.xls_range.specs.Positions.{Position, IsAscending}
use Rattle.xls_strings.specs.Texts.{text_of}
use Rattle.xls_biff.specs.Cells.{CellEntry}
use Rattle.xls_biff.specs.Cells as cells
use Rattle.xls_formula.specs.declared.numbers.NumberStyle.{NumberStyle}
use Rattle.xls_formula.specs.declared.numbers.NumberStyle.TheVariants.{Bits}
use Rattle.xls_meaning.specs.Rules.{Rules}
use Rattle.xls_meaning.specs.Reading.{SheetView, BookView, displayed_of, last_named}
use Rattle.xls_meaning.specs.SheetTable.{FormulaEntry}
use Rattle.xls_meaning.specs.Held.{no_view}
use Rattle.xls_open.specs.declared.options.XlsOptions.{XlsOptions}

-- ---- the options

-- what the reading of a stream and its faults hang on, where formulas show doubles so: not the header
-- row, nor the property streams
abbrev pub rules_under : NumberStyle → XlsOptions → Rules
rules_under style options =
    record {
      force_codepage = options.force_codepage;
      max_bytes = options.max_bytes;
      max_cells = options.max_cells;
      functions = options.functions;
      numbers = style;
    }

-- a workbook shows them by their bits
abbrev pub rules_of : XlsOptions → Rules
rules_of options = rules_under Bits options

-- ---- the workbook

-- the options that a workbook was opened with, and what it shows: its sheets in order, its defined names
-- with their texts, what each index shows, the date system, and the class of each XF
pub record Workbook : Type 0 where
  pub options : XlsOptions
  pub sheets : List SheetContent
  pub names : List (List ℕ × List ℕ)
  pub contents : List SheetView
  pub is_1904 : Bool
  pub classes : List CellFormat

-- what it shows
abbrev pub view_of : Workbook → BookView
view_of book =
    record {
      sheets = book.sheets;
      names = book.names;
      contents = book.contents;
      is_1904 = book.is_1904;
      classes = book.classes;
    }

-- for each of these sheets the content of the last sheet of its name
abbrev pub views_listed : List (SheetContent × SheetView) → List SheetContent → List SheetView
views_listed all ss = map (λ (s : SheetContent). unwrap_or (last_named all s.name) no_view) ss

-- of the last sheet of a name
abbrev pub view_named : Workbook → List ℕ → Option SheetView
view_named book name = displayed_of (view_of book) name

-- the cells of a sheet stand in order, and its formulas
abbrev pub IsOrdered : SheetView → Type 0
IsOrdered v = IsAscending (map (λ (c : CellEntry). c.0) v.cells)
    × IsAscending (map (λ (f : FormulaEntry). f.0) v.formulas)

-- ---- the values of the code

-- a cell by its content
abbrev pub cell_content : Position × Data → CellEntry
cell_content c = cells.cell_entry_of c

-- a formula's cell by its text
abbrev pub formula_content : Position × String Global → FormulaEntry
formula_content c = (c.0, text_of c.1)

-- the identifier and the code of a format, by its characters
abbrev pub code_texts : ℕ × String Global → ℕ × List ℕ
code_texts f = (f.0, text_of f.1)

-- a name and its text, by their characters
abbrev pub name_texts : String Global × String Global → List ℕ × List ℕ
name_texts n = (text_of n.0, text_of n.1)
