-- What the items of the arrays say, by the texts and the other items that they cite.
use Rattle.std.specs.Prelude.{◌≡◌, ℕ, List, length, take, drop, encode_utf8_all}
use Rattle.std.specs.List.{AllZip}
use Rattle.xls_data.specs.declared.regions.Dimensions.{Dimensions}
use Rattle.xls_biff.specs.Cells.{CellEntry}
use Rattle.xls_meaning.specs.SheetTable.{FormulaEntry}
use Rattle.xls_arrays.specs.Values.{cell_item, content_text}
use Rattle.xls_arrays.specs.Arrays.{Arrays, Reported, arrays_of, formula_item, sheet_kind_number, region_item, visibility_number}
use Rattle.xls_arrays.specs.declared.items.Span.{Span}
use Rattle.xls_arrays.specs.declared.items.SheetItem.{SheetItem}
use Rattle.xls_arrays.specs.declared.items.NameItem.{NameItem}
use Rattle.xls_arrays.specs.declared.items.CellItem.{CellItem}
use Rattle.xls_arrays.specs.declared.items.FormulaItem.{FormulaItem}
use Rattle.xls_arrays.specs.declared.items.RegionItem.{RegionItem}

-- so many things from a place on are these
pub record StandsAt {X : Type 0} (xs : List X) (first count : ℕ) (ys : List X) : Type 0 where
  pub many : count ≡ length ys
  pub these : take count (drop first xs) ≡ ys

-- a span is this text
abbrev pub SpanHasText : List ℕ → Span → List ℕ → Type 0
SpanHasText texts span text = StandsAt texts span.offset span.length text

abbrev pub IsNameOf : Arrays → NameItem → List ℕ × List ℕ → Type 0
IsNameOf a item n = SpanHasText a.texts item.name (encode_utf8_all n.0) × SpanHasText a.texts item.formula (encode_utf8_all n.1)

-- the item of a cell, whose text begins where it says
abbrev pub IsCellOf : Arrays → CellItem → CellEntry → Type 0
IsCellOf a item c =
    (offset : ℕ) × (item ≡ cell_item offset c) × StandsAt a.texts offset (length (content_text c.1)) (content_text c.1)

abbrev pub IsFormulaOf : Arrays → FormulaItem → FormulaEntry → Type 0
IsFormulaOf a item f = (item ≡ formula_item item.text f) × SpanHasText a.texts item.text (encode_utf8_all f.1)

abbrev pub IsRegionOf : Arrays → RegionItem → Dimensions → Type 0
IsRegionOf a item d = item ≡ region_item d

-- so many items from a place on are of these, one for one
abbrev pub AreOf : {I X : Type 0} → (I → X → Type 0) → List I → ℕ → ℕ → List X → Type 0
AreOf Is items first count xs = (those : List _) × StandsAt items first count those × AllZip Is those xs

-- the item of a sheet cites its name, and what is its own
pub record IsSheetOf (a : Arrays) (item : SheetItem) (t : Reported) : Type 0 where
  pub name : SpanHasText a.texts item.name (encode_utf8_all t.0.name)
  pub kind : item.kind ≡ sheet_kind_number t.0.typ
  pub visibility : item.visibility ≡ visibility_number t.0.visible
  pub cells : AreOf (IsCellOf a) a.cells item.first_cell item.cells t.1.cells
  pub formulas : AreOf (IsFormulaOf a) a.formulas item.first_formula item.formulas t.1.formulas
  pub regions : AreOf (IsRegionOf a) a.regions item.first_region item.regions t.1.merges

-- the arrays have an item for each name and for each sheet
pub record AreReported (a : Arrays) (names : List (List ℕ × List ℕ)) (sheets : List Reported) : Type 0 where
  pub each_name : AllZip (IsNameOf a) a.names names
  pub each_sheet : AllZip (IsSheetOf a) a.sheets sheets

abbrev pub ArraysAreReported : Type 0
ArraysAreReported = (names : List (List ℕ × List ℕ)) (sheets : List Reported) → AreReported (arrays_of names sheets) names sheets
