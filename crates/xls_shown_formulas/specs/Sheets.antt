-- The formulas of a sheet: those of cells, and those of arrays and data tables. Texts are lists of characters.
use Rattle.std.specs.Prelude.{ℕ, List, [], ◌++◌, Bool, false, codes, Result, Ok}
use Rattle.xls_bodies.specs.Bodies.{body_of}
use Rattle.xls_range.specs.Positions.{Position}
use Rattle.xls_record.specs.declared.version.Biff.{Biff}
use Rattle.xls_shown_ptg.specs.Reading.{◌>>=◌, gives}
use Rattle.xls_shown_ptg.specs.declared.fault.Fault.{Fault}
use Rattle.xls_shared_formulas.specs.Contents.{Content, formula, table, contents_of}
use Rattle.xls_shared_formulas.specs.Found.{Known, formula_for, formulas_in, formulas_of, is_table, table_for, tables_of}
use Rattle.xls_shared_formulas.specs.Start.{start_at}
use Rattle.xls_shared_formulas.specs.declared.fields.CellPlace.{CellPlace}
use Rattle.xls_shared_formulas.specs.declared.fields.CellRange.{CellRange}
use Rattle.xls_shared_formulas.specs.declared.fields.FormulaKind.{FormulaKind}
use Rattle.xls_shared_formulas.specs.declared.fields.FormulaKind.TheVariants as kinds
use Rattle.xls_shared_formulas.specs.declared.found.RangeFormula.{RangeFormula}
use Rattle.xls_shared_formulas.specs.declared.start.FormulaStart.{FormulaStart}
use Rattle.xls_shared_formulas.specs.declared.start.FormulaStart.TheVariants.{Own, Exp, Tbl}
use Rattle.xls_formula_books.specs.Prefixes.{Here}
use Rattle.xls_formula_cells.specs.Contents.{formula_contents}
use Rattle.xls_formula_cells.specs.declared.place.FormulaPlace.{FormulaPlace}
use Rattle.xls_formula_shown.specs.ShownFold.{shown_text}
use Rattle.xls_shown_formulas.specs.Books.{Book, scope, sheet_here}
use Rattle.xls_shown_formulas.specs.Refusals.{told_of_cell}
use Rattle.xls_shown_formulas.specs.Tables.{table_text}

-- ---- a sheet

-- the formulas of ranges of a part
abbrev pub known_of : Biff → ℕ → List ℕ → Known
known_of version offset part = record {
  version = version;
  offset = offset;
  part = part;
  formulas = formulas_of (formulas_in version offset part);
  tables = tables_of (formulas_in version offset part);
}

-- what its formulas are read by: those of all of the workbook, what they may name, and the formulas of ranges
pub record Sheet : Type 0 where
  pub book : Book
  pub here : Here
  pub known : Known

-- of this number from 1, whose part begins at an offset of the stream
abbrev pub sheet_of : Book → ℕ → ℕ → List ℕ → Sheet
sheet_of book number offset part = record {
  book = book;
  here = sheet_here book number offset part;
  known = known_of book.version offset part;
}

-- ---- texts, or why there is none

-- that of tokens and their extra bytes, from a place
abbrev pub tokens_text : Sheet → CellPlace → List ℕ → List ℕ → Result (List ℕ) Fault
tokens_text s at tokens extra = shown_text (scope s.book s.here false at) tokens extra

abbrev pub content_text : Sheet → CellPlace → Content → Result (List ℕ) Fault
content_text s at (formula tokens extra) = tokens_text s at tokens extra
content_text s at (table inputs) = Ok (table_text inputs)

-- the offsets of ShrFmla count from the cell that has the formula, those of Array from the first cell of its range
abbrev pub place_in : FormulaKind → CellRange → CellPlace → CellPlace
place_in kinds.Array range cell = record { row = range.first_row; column = range.first_column }
place_in kind range cell = cell

-- that of a formula of a range for a cell, without braces
abbrev pub range_text : Sheet → CellPlace → RangeFormula → Result (List ℕ) Fault
range_text s cell f =
    contents_of f.kind (body_of s.known.offset s.known.part f.offset) >>= content_text s (place_in f.kind f.range cell)

-- a cell of an array or a data table has it in braces
abbrev pub opening : FormulaKind → List ℕ
opening kinds.Shared = []
opening kind = codes "{="

abbrev pub closing : FormulaKind → List ℕ
closing kinds.Shared = []
closing kind = codes "}"

abbrev pub in_braces : FormulaKind → List ℕ → List ℕ
in_braces kind text = opening kind ++ (text ++ closing kind)

abbrev pub pointed_text : Sheet → CellPlace → RangeFormula → Result (List ℕ) Fault
pointed_text s cell f = gives (in_braces f.kind) (range_text s cell f)

-- by the first token: PtgExp and PtgTbl point to the formula of a range that holds the cell
abbrev pub text_by : Sheet → CellPlace → List ℕ → List ℕ → FormulaStart → Result (List ℕ) Fault
text_by s cell tokens extra Own = tokens_text s cell tokens extra
text_by s cell tokens extra (Exp token) = formula_for s.known.formulas token cell >>= pointed_text s cell
text_by s cell tokens extra (Tbl token) = table_for s.known.tables token cell >>= pointed_text s cell

-- that of a cell's tokens and extra bytes
abbrev pub cell_text : Sheet → CellPlace → List ℕ → List ℕ → Result (List ℕ) Fault
cell_text s cell tokens extra = start_at tokens >>= text_by s cell tokens extra

-- that of the cell whose Formula record stands at a place
abbrev pub cell_of : FormulaPlace → CellPlace
cell_of place = record { row = place.row; column = place.column }

abbrev pub text_at : Sheet → FormulaPlace → Result (List ℕ) Fault
text_at s place =
    formula_contents (body_of s.known.offset s.known.part place.offset) >>= λ x. cell_text s (cell_of place) x.0 x.1

-- ---- cells, and arrays and data tables

-- a cell with a formula, and its text
abbrev pub ShownCell : Type 0
ShownCell = Position × List ℕ

abbrev pub shown_cell : Sheet → FormulaPlace → ShownCell
shown_cell s place = ((place.row, place.column), told_of_cell (cell_of place) (text_at s place))

-- the range of an array or a data table, and its text without braces
pub record ShownRange : Type 0 where
  pub range : CellRange
  pub is_table : Bool
  pub text : List ℕ

-- the cell of a text that isn't there is the one to which the record belongs
abbrev pub shown_range : Sheet → RangeFormula → ShownRange
shown_range s f = record {
  range = f.range;
  is_table = is_table f.kind;
  text = told_of_cell f.anchor (range_text s f.anchor f);
}
