-- What the look-ups of a workbook answer.
use Rattle.std.specs.Prelude.{◌≡◌, ℕ, String, List, [], ◌∷◌, map, Option, Some, None, ◌⊎◌, ◌<◌, ◌≤◌, ◌++◌, codes, Bool, Vec}
use Rattle.std.specs.Borrow.{Bor}
use Rattle.xls_biff.specs.Cells as cells
use Rattle.xls_meaning.specs.SheetTable.{FormulaEntry}
use Rattle.xls_open.specs.Workbook.{formula_content, Workbook, cell_content}
use Rattle.std.specs.List.{AllByRecursion}
use Rattle.std.specs.Fmt.{decimal}
use Rattle.std.specs.String.{string_bytes}
use Rattle.std.specs.Str.{chars}
use Rattle.std.specs.Global.{Global}
use Rattle.std.specs.Ordering.{nat_cmp}
use Rattle.std.specs.Cmp.Lexicographic.{slice_cmp}
use Rattle.std.specs.List.Sorted.{IsStrictlySortedBy}
use Rattle.xls_data.specs.Blank.{is_nil}
use Rattle.xls_data.specs.Sheets.{SheetContent}
use Rattle.xls_data.specs.declared.regions.Dimensions.{Dimensions}
use Rattle.xls_data.specs.declared.regions.HeaderRow.{HeaderRow}
use Rattle.xls_data.specs.declared.regions.HeaderRow.TheVariants.{FirstNonEmptyRow, Row}
use Rattle.xls_data.specs.declared.values.Data.{Data}
use Rattle.xls_range.specs.Grid.{Grid, no_cells, start_of, end_of, cell_at, IsOfCorners, Shows}
use Rattle.xls_range.specs.Sparse.{IsDense}
use Rattle.xls_range.specs.Positions.{Position}
use Rattle.xls_biff.specs.Cells.{CellEntry}
use Rattle.xls_record.specs.declared.error.XlsError.{XlsError}
use Rattle.xls_record.specs.declared.error.XlsError.TheVariants as errors
use Rattle.xls_meaning.specs.Reading.{SheetView}

-- the workbook with this header row, and else as it was
abbrev pub under_header : Workbook → HeaderRow → Workbook
under_header book header = record book { options = record (book.options) { header_row = header } }

-- ---- ranges

-- which values are equal, and which are blank
abbrev pub Equal : Type 0
Equal = Data → Data → Bool

abbrev pub Blank : Type 0
Blank = Data → Bool

-- the range is the smallest box with cells that are seen so, and blanks elsewhere
pub record IsBoxOf {T X : Type 0} (seen : Position × T → X) (eq : T → T → Bool) (blank : T → Bool)
    (entries : List X) (box : Grid T) : Type 0 where
  pub cells : List (Position × T)
  pub contents : map seen cells ≡ entries
  pub dense : IsDense eq blank cells box

-- of values, by their contents
abbrev pub IsBox : Equal → Blank → List CellEntry → Grid Data → Type 0
IsBox eq blank entries box = IsBoxOf cell_content eq blank entries box

-- the range is the box from this row to its end, with the same columns; it has no cells where the box
-- has none or ends before the row
pub record IsCut (eq : Equal) (blank : Blank) (row : ℕ) (box range : Grid Data) : Type 0 where
  pub empty : end_of box ≡ None → range ≡ no_cells
  pub following : (end : Position) → end_of box ≡ Some end → end.0 < row → range ≡ no_cells
  pub corners : (start end : Position) → start_of box ≡ Some start → end_of box ≡ Some end
      → row ≤ end.0 → IsOfCorners (row, start.1) end range
  pub shows : (end : Position) → end_of box ≡ Some end → row ≤ end.0
      → Shows eq blank (cell_at box) range

abbrev pub IsUnder : Equal → Blank → HeaderRow → Grid Data → Grid Data → Type 0
IsUnder eq blank FirstNonEmptyRow box range = range ≡ box
IsUnder eq blank (Row row) box range = IsCut eq blank row box range

-- the range of cells of these contents under a header row
abbrev pub IsRangeOf : Equal → Blank → HeaderRow → List CellEntry → Grid Data → Type 0
IsRangeOf eq blank header entries range =
    (box : Grid Data) × IsBox eq blank entries box × IsUnder eq blank header box range

-- ---- formulas

-- a text without a character
abbrev pub is_empty_text : String Global → Bool
is_empty_text s = is_nil (string_bytes s)

-- the range is the smallest box with these texts, and empty texts elsewhere
abbrev pub IsTextBox : (String Global → String Global → Bool) → (String Global → Bool)
    → List FormulaEntry → Grid (String Global) → Type 0
IsTextBox eq blank entries box = IsBoxOf formula_content eq blank entries box

-- ---- all ranges

-- this text is among those
abbrev pub IsListed : List (List ℕ) → List ℕ → Type 0
IsListed [] text = ⊥
IsListed (t ∷ ts) text = (t ≡ text) ⊎ IsListed ts text

-- a name and its range
abbrev pub Worksheet : Type 0
Worksheet = String Global × Grid Data

-- a range without a header row, of what is shown of its name
abbrev pub IsWorksheet : Equal → Blank → (List ℕ → Option SheetView) → Worksheet → Type 0
IsWorksheet eq blank named w =
    (view : SheetView) × (named (chars (string_bytes w.0)) ≡ Some view) × IsBox eq blank view.cells w.1

-- each of these sheets' names once, in the order of their bytes, with its range
pub record AreWorksheets (eq : Equal) (blank : Blank) (named : List ℕ → Option SheetView)
    (sheets : List SheetContent) (list : List Worksheet) : Type 0 where
  pub ordered : IsStrictlySortedBy (slice_cmp nat_cmp) (map (λ (w : Worksheet). string_bytes w.0) list)
  pub each : AllByRecursion (IsWorksheet eq blank named) list
  pub every : AllByRecursion (λ (s : SheetContent). IsListed (map (λ (w : Worksheet). chars (string_bytes w.0)) list) s.name) sheets

-- ---- names

-- the names of the sheets in order
abbrev pub sheet_names_in : Workbook → List (List ℕ)
sheet_names_in book = map (λ (s : SheetContent). s.name) book.sheets

-- ---- refusals

-- why a look-up by name is refused, where this is shown of the name; the text's bytes are these
abbrev pub NameCause : Option SheetView → List ℕ → XlsError → Type 0
NameCause view name errors.Memory = Unit {0}
NameCause view name (errors.WorksheetNotFound text) = (view ≡ None) × (string_bytes text ≡ name)
NameCause view name e = ⊥

-- the text of a refusal that names an index
abbrev pub out_of_range : ℕ → List ℕ
out_of_range id = codes "Sheet index " ++ decimal id ++ codes " out of range"

-- ---- merged regions

-- the regions of what is shown, if there is anything
abbrev pub GivesMerges : {A : Type 0} → Option SheetView → Option (Vec Dimensions A) → Type 0
GivesMerges None None = Unit {0}
GivesMerges (Some v) (Some regions) = regions.items ≡ v.merges
GivesMerges view regions = ⊥

-- ---- steps of the iterators

-- a call of next with these cells left
abbrev pub ValueSteps : List CellEntry → Option (ℕ × ℕ × Bor Data) → List CellEntry → Type 0
ValueSteps before None after = (before ≡ []) × (after ≡ [])
ValueSteps before (Some v) after = before ≡ cells.cell_entry_of ((v.0, v.1), v.2.now) ∷ after

-- a call of next with these formulas left
abbrev pub FormulaSteps : List FormulaEntry → Option (ℕ × ℕ × Bor (List ℕ)) → List FormulaEntry → Type 0
FormulaSteps before None after = (before ≡ []) × (after ≡ [])
FormulaSteps before (Some v) after = before ≡ ((v.0, v.1), chars v.2.now) ∷ after
