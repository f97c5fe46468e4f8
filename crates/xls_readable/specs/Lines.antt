-- The lines of a workbook: the fields of each kind, by their names, in their order.
use Rattle.std.specs.Prelude.{◌≡◌, ℕ, Bool, true, false, List, [], ◌∷◌, ◌++◌, codes}
use Rattle.xls_dates.specs.declared.dates.ExcelDateTimeType.{ExcelDateTimeType}
use Rattle.xls_dates.specs.declared.dates.ExcelDateTimeType.TheVariants.{DateTime, TimeDelta}
use Rattle.xls_data.specs.declared.regions.Dimensions.{Dimensions}
use Rattle.xls_data.specs.declared.sheets.SheetType.{SheetType}
use Rattle.xls_data.specs.declared.sheets.SheetType.TheVariants as types
use Rattle.xls_data.specs.declared.sheets.SheetVisible.{SheetVisible}
use Rattle.xls_data.specs.declared.sheets.SheetVisible.TheVariants as states
use Rattle.xls_readable.specs.Json.{IsJsonLine}
use Rattle.xls_readable.specs.declared.forms.Form.{Form}
use Rattle.xls_readable.specs.declared.forms.Form.TheVariants.{Text, Json, Exact}
use Rattle.xls_readable.specs.declared.properties.Property.{Property}
use Rattle.xls_readable.specs.declared.properties.Property.TheVariants as property
pub use Rattle.xls_readable.specs.Items.{FieldItem, NamedItem, IsTextLine, exact_line, item_of, word, text, count, int, number, truth, moment, failure, unknown}

-- a line of a word and fields, as text, as JSON, or exact
abbrev pub IsLine : Form → List ℕ → List NamedItem → List ℕ → Type 0
IsLine Text kind members out = IsTextLine kind members out
IsLine Json kind members out = IsJsonLine kind members out
IsLine Exact kind members out = out ≡ exact_line kind members

abbrev pub year_text : Bool → List ℕ
year_text true = codes "1904"
year_text false = codes "1900"

-- the year that dates count from
abbrev pub dates_members : Bool → List NamedItem
dates_members is_1904 = (codes "year", word (year_text is_1904)) ∷ []

-- a name, and a text under a label
abbrev pub two_texts : List ℕ → List ℕ → List ℕ → List NamedItem
two_texts name label displayed = (codes "name", text name) ∷ (label, text displayed) ∷ []

-- a defined name and its text
abbrev pub name_members : List ℕ → List ℕ → List NamedItem
name_members name displayed = two_texts name (codes "text") displayed

abbrev pub type_text : SheetType → List ℕ
type_text types.WorkSheet = codes "worksheet"
type_text types.DialogSheet = codes "dialog"
type_text types.MacroSheet = codes "macro"
type_text types.ChartSheet = codes "chart"
type_text types.Vba = codes "vba"

abbrev pub visible_text : SheetVisible → List ℕ
visible_text states.Visible = codes "visible"
visible_text states.Hidden = codes "hidden"
visible_text states.VeryHidden = codes "veryhidden"

-- name, kind and visibility of a sheet
abbrev pub sheet_members : List ℕ → SheetType → SheetVisible → List NamedItem
sheet_members name kind visible =
    (codes "name", text name) ∷ (codes "kind", word (type_text kind)) ∷ (codes "visibility", word (visible_text visible)) ∷ []

-- row, column, kind and value of a cell
abbrev pub cell_members : ℕ → ℕ → List ℕ → FieldItem → List NamedItem
cell_members row column kind displayed =
    (codes "row", count row) ∷ (codes "column", count column) ∷ (codes "kind", word kind) ∷ (codes "value", displayed) ∷ []

-- and after them a text that is shown
abbrev pub shown_cell_members : ℕ → ℕ → List ℕ → FieldItem → List ℕ → List NamedItem
shown_cell_members row column kind displayed shown =
    cell_members row column kind displayed ++ (codes "shown", text shown) ∷ []

-- a day or a time of day, or a duration
abbrev pub moment_kind : ExcelDateTimeType → List ℕ
moment_kind DateTime = codes "date"
moment_kind TimeDelta = codes "span"

-- row, column and text of a formula
abbrev pub formula_members : ℕ → ℕ → List ℕ → List NamedItem
formula_members row column displayed =
    (codes "row", count row) ∷ (codes "column", count column) ∷ (codes "text", text displayed) ∷ []

-- the corners of a merged region
abbrev pub merge_members : Dimensions → List NamedItem
merge_members d =
    (codes "first_row", count d.start.0) ∷ (codes "first_column", count d.start.1)
    ∷ (codes "last_row", count d.end.0) ∷ (codes "last_column", count d.end.1) ∷ []

-- sheet, row and column of a formula, and of the cells that it cites the sheet and the corners
abbrev pub ref_members : List ℕ → ℕ × ℕ → List ℕ → Dimensions → List NamedItem
ref_members sheet cell cited_sheet cells =
    (codes "sheet", text sheet) ∷ (codes "row", count cell.0) ∷ (codes "column", count cell.1)
    ∷ (codes "cited_sheet", text cited_sheet) ∷ merge_members cells

-- a text, as that of a refusal or of a property
abbrev pub text_members : List ℕ → List NamedItem
text_members displayed = (codes "text", text displayed) ∷ []

-- the word of a property of the document
abbrev pub property_word : Property → List ℕ
property_word property.Title = codes "title"
property_word property.Subject = codes "subject"
property_word property.Creator = codes "creator"
property_word property.Keywords = codes "keywords"
property_word property.Description = codes "description"
property_word property.Template = codes "template"
property_word property.LastModifiedBy = codes "last_modified_by"
property_word property.Revision = codes "revision"
property_word property.Created = codes "created"
property_word property.Modified = codes "modified"
property_word property.Application = codes "application"
property_word property.Category = codes "category"
property_word property.Manager = codes "manager"
property_word property.Company = codes "company"
property_word property.ContentStatus = codes "content_status"
property_word property.Version = codes "version"
property_word property.AppVersion = codes "app_version"

-- name and value of a custom property
abbrev pub custom_members : List ℕ → List ℕ → List NamedItem
custom_members name displayed = two_texts name (codes "value") displayed
