-- The lines of what a workbook shows. Texts stand in UTF-8.
use Rattle.std.specs.Prelude.{ℕ, Bool, List, [], ◌∷◌, ◌++◌, map, codes, Option, Some, None, Result, slice_get, unwrap_or, encode_utf8_all}
use Rattle.std.specs.Borrow.{Bor}
use Rattle.std.specs.List.{flat_map}
use Rattle.std.specs.Str.{chars}
use Rattle.xls_data.specs.Content.{Content, int, float, text, truth, date, iso_date, iso_duration, failure, nothing}
use Rattle.xls_data.specs.Sheets.{SheetContent}
use Rattle.xls_data.specs.declared.regions.Dimensions.{Dimensions}
use Rattle.xls_range.specs.Positions.{Position}
use Rattle.xls_biff.specs.Cells.{CellEntry}
use Rattle.xls_meaning.specs.Reading.{SheetView, BookView}
use Rattle.xls_meaning.specs.SheetTable.{FormulaEntry, nonempty_formulas}
use Rattle.xls_view.specs.Formats.{FormattedCell, plain}
use Rattle.xls_view.specs.Viewing.{Viewed}
use Rattle.xls_cell_formats.specs.CellCodes.{code_of_xf}
use Rattle.xls_cell_formats.specs.Cells.{classed_cell}
use Rattle.xls_cell_formats.specs.Contents.{IsContentShown}
use Rattle.xls_refs.specs.Cited.{BookCitation, BookCited}
use Rattle.xls_output.specs.SinkState.{SinkState}
use Rattle.xls_output.specs.Output.{output_of}
use Rattle.xls_output.specs.declared.writer.Writer.{Writer}
use Rattle.xls_output.specs.declared.stop.Stop.{Stop}
use Rattle.xls_readable.specs.Items as item
use Rattle.xls_readable.specs.Items.{NamedItem}
use Rattle.xls_readable.specs.Lines.{IsLine, exact_line, dates_members, name_members, sheet_members, cell_members, moment_kind, formula_members, merge_members, ref_members}
use Rattle.xls_readable.specs.declared.forms.Form.{Form}
use Rattle.xls_readable.specs.declared.forms.Form.TheVariants.{Text, Json, Exact}
use Rattle.xls_listing.specs.declared.readings.CellReading.{CellReading}
use Rattle.xls_listing.specs.declared.readings.CellReading.TheVariants.{Recorded, ByCode, Shown}
use Rattle.xls_listing.specs.declared.readings.CellReader.{CellReader}
use Rattle.xls_listing.specs.declared.readings.CellReader.TheVariants as readers
use Rattle.xls_listing.specs.declared.lines.BookLine.{BookLine}
use Rattle.xls_listing.specs.declared.lines.BookLine.TheVariants as lines
use Rattle.xls_output.specs.Each.{PutsEach}

-- what Excel shows of a content under the code of a format, in a date system
pub record ShownAs : Type 0 where
  pub code : List ℕ
  pub is_1904 : Bool
  pub content : Content

-- a line by its word and by its fields, each under its name; that of a cell may end with what Excel shows of it
pub record Line : Type 0 where
  pub word : List ℕ
  pub members : List NamedItem
  pub shown : Option ShownAs

-- what is shown as a field of its own, which is the last
abbrev pub with_shown : List NamedItem → List ℕ → List NamedItem
with_shown members displayed = members ++ (codes "shown", item.text (encode_utf8_all displayed)) ∷ []

-- exact lines don't tell it
abbrev pub IsShownLine : Form → List ℕ → List NamedItem → ShownAs → List ℕ → Type 0
IsShownLine Exact word members s out = IsLine Exact word members out
IsShownLine Text word members s out =
    (displayed : List ℕ) × IsContentShown s.code s.is_1904 s.content displayed × IsLine Text word (with_shown members displayed) out
IsShownLine Json word members s out =
    (displayed : List ℕ) × IsContentShown s.code s.is_1904 s.content displayed × IsLine Json word (with_shown members displayed) out

abbrev pub IsLineOf : Form → List ℕ → List NamedItem → Option ShownAs → List ℕ → Type 0
IsLineOf form word members None out = IsLine form word members out
IsLineOf form word members (Some s) out = IsShownLine form word members s out

-- the text of a line in a form
abbrev pub IsDisplayedLine : Form → Line → List ℕ → Type 0
IsDisplayedLine form l out = IsLineOf form l.word l.members l.shown out

-- exact lines, one after another
abbrev pub exact_lines : List Line → List ℕ
exact_lines ls = flat_map (λ l. exact_line l.word l.members) ls

-- one of which no more is told
abbrev pub line : List ℕ → List NamedItem → Line
line word members = record { word = word; members = members; shown = None }

-- ---- one line

-- the year that dates count from
abbrev pub dates_line : Bool → Line
dates_line is_1904 = line (codes "dates") (dates_members is_1904)

-- a defined name and its text
abbrev pub name_line : List ℕ × List ℕ → Line
name_line n = line (codes "name") (name_members (encode_utf8_all n.0) (encode_utf8_all n.1))

-- name, kind and visibility of a sheet
abbrev pub sheet_line : SheetContent → Line
sheet_line s = line (codes "sheet") (sheet_members (encode_utf8_all s.name) s.typ s.visible)

-- the kind of a value, and what is shown of it; a blank has none
abbrev pub kind_and_value : Content → Option NamedItem
kind_and_value (int n) = Some (codes "int", item.int n)
kind_and_value (float n) = Some (codes "float", item.number n)
kind_and_value (text cs) = Some (codes "text", item.text (encode_utf8_all cs))
kind_and_value (truth b) = Some (codes "bool", item.truth b)
kind_and_value (date d) = Some (moment_kind d.kind, item.moment d)
kind_and_value (iso_date cs) = Some (codes "date", item.text (encode_utf8_all cs))
kind_and_value (iso_duration cs) = Some (codes "span", item.text (encode_utf8_all cs))
kind_and_value (failure e) = Some (codes "error", item.failure e)
kind_and_value nothing = None

-- row and column of a cell, the kind of its value and what is told of that, and what Excel shows
abbrev pub cell_line : Position → NamedItem → Option ShownAs → Line
cell_line p k shown = record { word = codes "cell"; members = cell_members p.0 p.1 k.0 k.1; shown = shown }

-- if there is a value
abbrev pub valued_lines : Position → Option NamedItem → Option ShownAs → List Line
valued_lines p None shown = []
valued_lines p (Some k) shown = cell_line p k shown ∷ []

-- a cell that is told, and what Excel shows of it, if that is told too
abbrev pub ListedCell : Type 0
ListedCell = CellEntry × Option ShownAs

-- the line of a cell; a blank has none
abbrev pub cell_lines : ListedCell → List Line
cell_lines c = valued_lines c.0.0 (kind_and_value c.0.1) c.1

-- row, column and text of a formula
abbrev pub formula_line : FormulaEntry → Line
formula_line f = line (codes "formula") (formula_members f.0.0 f.0.1 (encode_utf8_all f.1))

-- the corners of a merged region
abbrev pub merge_line : Dimensions → Line
merge_line d = line (codes "merge") (merge_members d)

-- the area with these corners
abbrev pub area : Position → Position → Dimensions
area first last = record { start = first; end = last }

-- sheet, row and column of a formula, and of cells that it cites the sheet and the corners
abbrev pub cited_line : List ℕ → Position → List ℕ → Dimensions → Line
cited_line name formula sheet cells =
    line (codes "ref") (ref_members (encode_utf8_all name) formula (encode_utf8_all sheet) cells)

-- the same where the sheets have these names
abbrev pub ref_line : List (List ℕ) → BookCitation → Line
ref_line names c =
    cited_line (unwrap_or (slice_get names c.sheet) []) (c.row, c.col) (unwrap_or c.cite.sheet []) (area c.cite.first c.cite.last)

-- each of them but that of a cell, by its texts in UTF-8
abbrev pub line_of : BookLine → Line
line_of (lines.Dates is_1904) = dates_line is_1904
line_of (lines.Name name displayed) = line (codes "name") (name_members name.now displayed.now)
line_of (lines.Sheet name kind visible) = line (codes "sheet") (sheet_members name.now kind visible)
line_of (lines.Formula row column displayed) = line (codes "formula") (formula_members row column displayed.now)
line_of (lines.Merge region) = merge_line region
line_of (lines.Ref name cell sheet cells) = line (codes "ref") (ref_members name.now cell sheet.now cells)

-- ---- cells

-- how a workbook's cells are read: as their records have them, by the codes of its formats, or likewise with what Excel
-- shows
abbrev pub reader_of : CellReading → Viewed → CellReader
reader_of Recorded view = readers.Recorded
reader_of ByCode view = readers.ByCode view
reader_of Shown view = readers.Shown view

abbrev pub cell_as : CellReader → FormattedCell → FormattedCell
cell_as readers.Recorded c = c
cell_as (readers.ByCode view) c = classed_cell view c
cell_as (readers.Shown view) c = classed_cell view c

-- what Excel shows of a content in a cell of this XF index, where that is told
abbrev pub shown_of : CellReader → Content → ℕ → Option ShownAs
shown_of readers.Recorded content xf = None
shown_of (readers.ByCode view) content xf = None
shown_of (readers.Shown view) content xf =
    Some (record { code = code_of_xf view.codes view.identifiers xf; is_1904 = view.book.is_1904; content = content })

abbrev pub told : CellReader → FormattedCell → ListedCell
told reader c = (plain c, shown_of reader c.1.0 c.1.1)

abbrev pub listed_cell : CellReader → FormattedCell → ListedCell
listed_cell reader c = told reader (cell_as reader c)

-- ---- a workbook

-- what is told of a sheet: its cells, and all else that it shows
pub record ListedSheet : Type 0 where
  pub cells : List ListedCell
  pub view : SheetView

-- as its records have it
abbrev pub recorded : SheetView → ListedSheet
recorded v = record { cells = map (λ (c : CellEntry). (c, None)) v.cells; view = v }

-- read so, where the cells with their XF indices are these
abbrev pub listed_sheet : CellReader → SheetView → List FormattedCell → ListedSheet
listed_sheet readers.Recorded v cells = recorded v
listed_sheet reader v cells = record { cells = map (listed_cell reader) cells; view = v }

-- those of all sheets
abbrev pub listed_sheets : CellReader → List SheetView → List (List FormattedCell) → List ListedSheet
listed_sheets reader [] cells = []
listed_sheets reader (v ∷ vs) [] = listed_sheet reader v [] ∷ listed_sheets reader vs []
listed_sheets reader (v ∷ vs) (cs ∷ css) = listed_sheet reader v cs ∷ listed_sheets reader vs css

-- the lines of cells
abbrev pub lines_of_cells : List ListedCell → List Line
lines_of_cells cells = flat_map cell_lines cells

-- those of the formulas of a sheet whose text isn't empty
abbrev pub lines_of_formulas : SheetView → List Line
lines_of_formulas v = map formula_line (nonempty_formulas v.formulas)

-- those of its merged regions
abbrev pub lines_of_merges : SheetView → List Line
lines_of_merges v = map merge_line v.merges

-- all of them
abbrev pub lines_of_sheet : ListedSheet → List Line
lines_of_sheet s = lines_of_cells s.cells ++ (lines_of_formulas s.view ++ lines_of_merges s.view)

-- the line of each sheet, and after it those of what it shows
abbrev pub each_sheet : {V : Type 0} → (V → List Line) → List SheetContent → List V → List Line
each_sheet displayed [] views = []
each_sheet displayed (s ∷ ss) [] = sheet_line s ∷ each_sheet displayed ss []
each_sheet displayed (s ∷ ss) (v ∷ vs) = sheet_line s ∷ displayed v ++ each_sheet displayed ss vs

-- the date system, the defined names, and the sheets in workbook order with all that is told of them
abbrev pub book_lines : BookView → List ListedSheet → List Line
book_lines book sheets =
    dates_line book.is_1904 ∷ map name_line book.names ++ each_sheet lines_of_sheet book.sheets sheets

-- all that a workbook holds, its cells as their records have them
abbrev pub dump_lines : BookView → List Line
dump_lines book = book_lines book (map recorded book.contents)

-- likewise, its cells read so
abbrev pub lines_by : CellReader → Viewed → List Line
lines_by reader view = book_lines view.book (listed_sheets reader view.book.contents view.formatted)

abbrev pub listed_lines : CellReading → Viewed → List Line
listed_lines reading view = lines_by (reader_of reading view) view

-- the sheets in workbook order
abbrev pub sheet_lines : BookView → List Line
sheet_lines book = map sheet_line book.sheets

-- the sheets in workbook order, each with its formulas
abbrev pub formula_lines : BookView → List Line
formula_lines book = each_sheet lines_of_formulas book.sheets book.contents

-- what all formulas cite
abbrev pub ref_lines : BookCited → List Line
ref_lines book = map (ref_line book.names) book.cites

-- ---- for the contracts of one step

-- a writer whose buffer keeps what is gathered was given these lines: they were gathered; or, where it was given up, a
-- prefix of those of the first so many was written
abbrev pub PutsLines : {K B X : Type 0} → (K → SinkState) → (B → List ℕ) → (Line → List ℕ → Type 0) → List Line
    → Writer K B → Writer K B → Result X Stop → Type 0
PutsLines state kept IsText lines before after result =
    PutsEach IsText lines (output_of state kept before) (output_of state kept after) result

-- the lines of what stands at an index, if there is anything
abbrev pub displayed_at : {X : Type 0} → (X → List Line) → Option X → List Line
displayed_at lines None = []
displayed_at lines (Some x) = lines x

-- the text is what is shown, if something is
abbrev pub TellsShown : Option ShownAs → Option (Bor (List ℕ)) → Type 0
TellsShown None None = Unit {0}
TellsShown (Some s) (Some displayed) = IsContentShown s.code s.is_1904 s.content (chars displayed.now)
TellsShown s displayed = ⊥
