-- What a logical list says of a workbook.
use Rattle.std.specs.Prelude.{◌≡◌, ℕ, Bool, List, [], ◌∷◌, ◌==◌, if◌then◌else◌, map, Option, Some, None, unwrap_or, Result, Ok, Err}
use Rattle.std.specs.Option.{option_or}
use Rattle.std.specs.List.{flat_map, AllZip}
use Rattle.std.specs.Cmp.Lexicographic.{pointwise}
use Rattle.xls_stream.specs.Listing.{Kept}
use Rattle.xls_stream.specs.Listing as listing
use Rattle.xls_data.specs.Sheets.{SheetContent}
use Rattle.xls_data.specs.declared.regions.Dimensions.{Dimensions}
use Rattle.xls_range.specs.Positions.{Position, IsAscending, last_at}
use Rattle.xls_record.specs.declared.error.XlsError.{XlsError}
use Rattle.xls_biff.specs.Cells.{CellEntry}
use Rattle.xls_meaning.specs.Order.{map_with_earlier}
use Rattle.xls_meaning.specs.Settings.{is_1904_in, classes_in, names_in, Settings, settings_of, SheetRecords, sheets_of}
use Rattle.xls_meaning.specs.SheetTable.{FormulaEntry, Yield, nothing, yield_in}
use Rattle.xls_meaning.specs.Rules.{Rules}
use Rattle.xls_dates.specs.declared.formats.CellFormat.{CellFormat}

-- ---- sheets

-- of what stands at each of these sheets, that of the last sheet of this name
abbrev pub last_named : {X : Type 0} → List (SheetContent × X) → List ℕ → Option X
last_named [] name = None
last_named (q ∷ qs) name =
    option_or (last_named qs name) (if pointwise ◌==◌ q.0.name name then Some q.1 else None)

-- the kept records of the last sheet of this name
abbrev pub kept_named : List SheetRecords → List ℕ → List Kept
kept_named sheets name = unwrap_or (last_named sheets name) []

-- ---- values, formulas and regions

abbrev pub yield_of : Result Yield XlsError → Yield
yield_of (Ok g) = g
yield_of (Err e) = nothing

-- what each kept record gives after those before it
abbrev pub yields_of : Settings → List Kept → List Yield
yields_of s kept = map yield_of (map_with_earlier (yield_in s) [] kept)

-- the cells in order
abbrev pub values_of : Settings → List Kept → List CellEntry
values_of s kept = flat_map (λ (g : Yield). g.cells) (yields_of s kept)

-- the texts of formulas in order
abbrev pub formulas_of : Settings → List Kept → List FormulaEntry
formulas_of s kept = flat_map (λ (g : Yield). g.formulas) (yields_of s kept)

-- the merged regions in order
abbrev pub merges_of : Settings → List Kept → List Dimensions
merges_of s kept = flat_map (λ (g : Yield). g.regions) (yields_of s kept)

-- what a sheet shows: its values, the texts of its formulas, and its merged regions
pub record SheetView : Type 0 where
  pub cells : List CellEntry
  pub formulas : List FormulaEntry
  pub merges : List Dimensions

-- cells and formulas stand by row, then column, and each position has the value and the text that was
-- given to it last, empty texts too; the regions are those of the kept records
pub record IsContent (s : Settings) (kept : List Kept) (view : SheetView) : Type 0 where
  pub ascending : IsAscending (map (λ (c : CellEntry). c.0) view.cells)
  pub last : (p : Position) → last_at view.cells p ≡ last_at (values_of s kept) p
  pub formulas_ascending : IsAscending (map (λ (f : FormulaEntry). f.0) view.formulas)
  pub last_formulas : (p : Position) → last_at view.formulas p ≡ last_at (formulas_of s kept) p
  pub merges : view.merges ≡ merges_of s kept

-- ---- the workbook

-- what a workbook shows: its sheets in order, its defined names with their texts, what each index
-- shows, the date system, and the class of each XF
pub record BookView : Type 0 where
  pub sheets : List SheetContent
  pub names : List (List ℕ × List ℕ)
  pub contents : List SheetView
  pub is_1904 : Bool
  pub classes : List CellFormat

-- each sheet shows the content of the last sheet of its name
abbrev pub IsDisplayed : Settings → List SheetRecords → SheetView → SheetRecords → Type 0
IsDisplayed s all view q = IsContent s (kept_named all q.0.name) view

-- the workbook is the reading of the list under these rules
pub record IsReading (rules : Rules) (entries : List listing.ListEntry) (book : BookView) : Type 0 where
  pub sheets : book.sheets ≡ map (λ (q : SheetRecords). q.0) (sheets_of rules entries)
  pub names : book.names ≡ names_in rules entries
  pub contents : AllZip (IsDisplayed (settings_of rules entries) (sheets_of rules entries)) book.contents (sheets_of rules entries)
  pub date_system : book.is_1904 ≡ is_1904_in rules entries
  pub classes : book.classes ≡ classes_in rules entries

-- ---- by name

-- each sheet with what stands at its place
abbrev pub paired : {X : Type 0} → List SheetContent → List X → List (SheetContent × X)
paired [] xs = []
paired (s ∷ ss) [] = []
paired (s ∷ ss) (x ∷ xs) = (s, x) ∷ paired ss xs

-- what a workbook shows of the last sheet of a name
abbrev pub displayed_of : BookView → List ℕ → Option SheetView
displayed_of book name = last_named (paired book.sheets book.contents) name
