-- What a workbook holds, as arrays: items that cite the texts by offset and length.
use Rattle.std.specs.Prelude.{ℕ, List, [], ◌∷◌, ◌++◌, length, encode_utf8_all}
use Rattle.xls_data.specs.Sheets.{SheetContent}
use Rattle.xls_data.specs.declared.sheets.SheetType.{SheetType}
use Rattle.xls_data.specs.declared.sheets.SheetType.TheVariants as kinds
use Rattle.xls_data.specs.declared.sheets.SheetVisible.{SheetVisible}
use Rattle.xls_data.specs.declared.sheets.SheetVisible.TheVariants.{Visible, Hidden, VeryHidden}
use Rattle.xls_data.specs.declared.regions.Dimensions.{Dimensions}
use Rattle.xls_biff.specs.Cells.{CellEntry}
use Rattle.xls_meaning.specs.SheetTable.{FormulaEntry}
use Rattle.xls_meaning.specs.Reading.{SheetView}
use Rattle.xls_arrays.specs.Values.{cell_item, content_text}
use Rattle.xls_arrays.specs.declared.items.Span.{Span}
use Rattle.xls_arrays.specs.declared.items.Sizes.{Sizes}
use Rattle.xls_arrays.specs.declared.items.SheetItem.{SheetItem}
use Rattle.xls_arrays.specs.declared.items.NameItem.{NameItem}
use Rattle.xls_arrays.specs.declared.items.CellItem.{CellItem}
use Rattle.xls_arrays.specs.declared.items.FormulaItem.{FormulaItem}
use Rattle.xls_arrays.specs.declared.items.RegionItem.{RegionItem}

pub record Arrays : Type 0 where
  pub sheets : List SheetItem
  pub names : List NameItem
  pub cells : List CellItem
  pub formulas : List FormulaItem
  pub regions : List RegionItem
  pub texts : List ℕ

abbrev pub empty : Arrays
empty = record { sheets = []; names = []; cells = []; formulas = []; regions = []; texts = [] }

-- ---- one thing more

abbrev pub with_text : Arrays → List ℕ → Arrays
with_text a text = record a { texts = a.texts ++ text }

abbrev pub with_sheet_item : Arrays → SheetItem → Arrays
with_sheet_item a item = record a { sheets = a.sheets ++ item ∷ [] }

abbrev pub with_name_item : Arrays → NameItem → Arrays
with_name_item a item = record a { names = a.names ++ item ∷ [] }

abbrev pub with_cell_item : Arrays → CellItem → Arrays
with_cell_item a item = record a { cells = a.cells ++ item ∷ [] }

abbrev pub with_formula_item : Arrays → FormulaItem → Arrays
with_formula_item a item = record a { formulas = a.formulas ++ item ∷ [] }

abbrev pub with_region_item : Arrays → RegionItem → Arrays
with_region_item a item = record a { regions = a.regions ++ item ∷ [] }

-- where a text is that is laid next
abbrev pub next_span : Arrays → List ℕ → Span
next_span a text = record { offset = length a.texts; length = length text }

-- a cell, and its text
abbrev pub with_cell_laid : Arrays → CellEntry → Arrays
with_cell_laid a c = with_cell_item (with_text a (content_text c.1)) (cell_item (length a.texts) c)

abbrev pub formula_item : Span → FormulaEntry → FormulaItem
formula_item span f = record { row = f.0.0; column = f.0.1; text = span }

-- a formula, and its text
abbrev pub with_formula : Arrays → FormulaEntry → Arrays
with_formula a f =
    with_formula_item (with_text a (encode_utf8_all f.1)) (formula_item (next_span a (encode_utf8_all f.1)) f)

abbrev pub region_item : Dimensions → RegionItem
region_item d =
    record { first_row = d.start.0; first_column = d.start.1; last_row = d.end.0; last_column = d.end.1 }

abbrev pub with_region : Arrays → Dimensions → Arrays
with_region a d = with_region_item a (region_item d)

-- a defined name, and after it the text of its formula
abbrev pub with_name : Arrays → List ℕ × List ℕ → Arrays
with_name a n =
    let name = encode_utf8_all n.0 in
    let formula = encode_utf8_all n.1 in
    with_name_item (with_text (with_text a name) formula)
    (record { name = next_span a name; formula = next_span (with_text a name) formula })

-- ---- many things, one after another

unfoldable pub laid : {X : Type 0} → (Arrays → X → Arrays) → Arrays → List X → Arrays
laid step a [] = a
laid step a (x ∷ xs) = laid step (step a x) xs

-- ---- sheets

abbrev pub sheet_kind_number : SheetType → ℕ
sheet_kind_number kinds.WorkSheet = 0
sheet_kind_number kinds.DialogSheet = 1
sheet_kind_number kinds.MacroSheet = 2
sheet_kind_number kinds.ChartSheet = 3
sheet_kind_number kinds.Vba = 4

abbrev pub visibility_number : SheetVisible → ℕ
visibility_number Visible = 0
visibility_number Hidden = 1
visibility_number VeryHidden = 2

-- a sheet with this name, whose content is laid after these arrays
abbrev pub sheet_item : Arrays → Span → SheetContent → SheetView → SheetItem
sheet_item a name s v =
    record {
      name = name;
      first_cell = length a.cells;
      cells = length v.cells;
      first_formula = length a.formulas;
      formulas = length v.formulas;
      first_region = length a.regions;
      regions = length v.merges;
      kind = sheet_kind_number s.typ;
      visibility = visibility_number s.visible;
    }

-- cells, then formulas, then regions
abbrev pub with_content : Arrays → SheetView → Arrays
with_content a v = laid with_region (laid with_formula (laid with_cell_laid a v.cells) v.formulas) v.merges

-- a sheet and its content
abbrev pub Reported : Type 0
Reported = SheetContent × SheetView

-- its name, its content, and its item
abbrev pub with_sheet : Arrays → Reported → Arrays
with_sheet a t =
    let name = encode_utf8_all t.0.name in
    with_sheet_item (with_content (with_text a name) t.1) (sheet_item a (next_span a name) t.0 t.1)

-- ---- a workbook

-- its defined names, and then these of its sheets
abbrev pub arrays_of : List (List ℕ × List ℕ) → List Reported → Arrays
arrays_of names sheets = laid with_sheet (laid with_name empty names) sheets

abbrev pub sizes_of : Arrays → ℕ → Sizes
sizes_of a is_1904 =
    record {
      sheets = length a.sheets;
      names = length a.names;
      cells = length a.cells;
      formulas = length a.formulas;
      regions = length a.regions;
      text_bytes = length a.texts;
      is_1904 = is_1904;
      reserved = 0;
    }
