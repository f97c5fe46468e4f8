-- The sheet that is written as CSV, and its text.
use Rattle.std.specs.Prelude.{◌≡◌, ◌⊎◌, ℕ, ◌+◌, ◌-◌, ◌==◌, nat_lt, Bool, true, false, if◌then◌else◌, List, [], ◌∷◌, length, Option, Some, None, slice_get, Result, Ok, Err}
use Rattle.std.specs.Cmp.Lexicographic.{pointwise}
use Rattle.std.specs.Option.{option_or}
use Rattle.std.specs.Str.{chars}
use Rattle.std.specs.String.{string_bytes}
use Rattle.xls_data.specs.Sheets.{SheetContent}
use Rattle.xls_data.specs.declared.sheets.SheetType.{SheetType}
use Rattle.xls_data.specs.declared.sheets.SheetType.TheVariants as types
use Rattle.xls_biff.specs.Cells.{CellEntry}
use Rattle.xls_meaning.specs.Reading.{SheetView, BookView}
use Rattle.xls_view.specs.Viewing.{Viewed}
use Rattle.xls_view.specs.Formats.{FormattedCell}
use Rattle.xls_csv.specs.Dense.{sheet_csv}
use Rattle.xls_tables.specs.Rows.{form_fields}
use Rattle.xls_tables.specs.Tables.{IsTable, BeginsTable, seen_table}
use Rattle.xls_hidden.specs.Hidden.{Hidden}
use Rattle.xls_hidden_cells.specs.declared.sight.Sight.{Sight}
use Rattle.xls_open.specs.declared.options.XlsOptions.{XlsOptions}
use Rattle.xls_output.specs.SinkState.{SinkState}
use Rattle.xls_output.specs.Gathering.{Stops, Wrote}
use Rattle.xls_output.specs.declared.stop.Stop.{Stop}
use Rattle.xls_output.specs.declared.stop.Stop.TheVariants.{Memory}
use Rattle.xls_report.specs.Endings.{IsUntouched}
use Rattle.xls_readable.specs.declared.choices.SheetChoice.{SheetChoice}
use Rattle.xls_readable.specs.declared.choices.SheetChoice.TheVariants.{First, Named, Number}
use Rattle.xls_readable.specs.declared.choices.Table.{Table}
pub use Rattle.xls_answers.specs.LastNamed.{last_named_from}
use Rattle.xls_answers.specs.HiddenParts.{SkipsBy}
use Rattle.xls_answers.specs.declared.failure.Failure.{Failure}
use Rattle.xls_answers.specs.declared.failure.Failure.TheVariants as failures
use Rattle.xls_answers.specs.declared.failure.Missing.{Missing}
use Rattle.xls_answers.specs.declared.failure.Missing.TheVariants as missing

-- ---- which sheet

abbrev pub is_worksheet : SheetType → Bool
is_worksheet types.WorkSheet = true
is_worksheet types.DialogSheet = false
is_worksheet types.MacroSheet = false
is_worksheet types.ChartSheet = false
is_worksheet types.Vba = false

-- the index of the first worksheet, where these sheets have the indices from n on
abbrev pub first_worksheet_from : ℕ → List SheetContent → Option ℕ
first_worksheet_from n [] = None
first_worksheet_from n (s ∷ ss) = if is_worksheet s.typ then Some n else first_worksheet_from (n + 1) ss

-- the index of the sheet of a number, of so many; sheets are numbered from 1
abbrev pub index_of_number : ℕ → ℕ → Option ℕ
index_of_number number count = if nat_lt (number - 1) count then Some (number - 1) else None

-- the index of the sheet that is chosen
abbrev pub chosen_index : SheetChoice → List SheetContent → Option ℕ
chosen_index First sheets = first_worksheet_from 0 sheets
chosen_index (Named name) sheets = last_named_from 0 (chars name.now) sheets
chosen_index (Number number) sheets = index_of_number number (length sheets)

-- how it is told that there is none
abbrev pub IsMissing : SheetChoice → Missing → Type 0
IsMissing (Named name) (missing.Name s) = string_bytes s ≡ name.now
IsMissing (Number n) (missing.Number m) = m ≡ n
IsMissing First missing.Worksheet = Unit {0}
IsMissing choice m = ⊥

abbrev pub MissesSheet : SheetChoice → Missing → Viewed → Type 0
MissesSheet choice m view = IsMissing choice m × (chosen_index choice view.book.sheets ≡ None)

-- there is none, and it is told so; or memory ran out
abbrev pub HasNoSheet : SheetChoice → BookView → Failure → Type 0
HasNoSheet choice book (failures.Missing m) = IsMissing choice m × (chosen_index choice book.sheets ≡ None)
HasNoSheet choice book (failures.Stopped s) = s ≡ Memory
HasNoSheet choice book other = ⊥

-- ---- its text

-- the dense box of its cells, by whether it is exact: as people read it, of the cells with their XF indices, without what
-- is hidden, where that is given; or as xls_dump writes it
abbrev pub IsCellsText : Bool → Table → Option Hidden → Viewed → List CellEntry → List FormattedCell → List ℕ → Type 0
IsCellsText false table hidden view entries cells text =
    IsTable (form_fields table.style table.delimiter view) table.begins_with_mark (seen_table hidden table.origin cells) text
IsCellsText true table hidden view entries cells text = text ≡ sheet_csv entries

-- a part of it
abbrev pub BeginsCellsText : Bool → Table → Option Hidden → Viewed → List CellEntry → List FormattedCell → List ℕ → Type 0
BeginsCellsText false table hidden view entries cells text =
    BeginsTable (form_fields table.style table.delimiter view) table.begins_with_mark (seen_table hidden table.origin cells) text
BeginsCellsText true table hidden view entries cells text = text ≡ sheet_csv entries

-- the text of the sheet at an index, and a part of it
abbrev pub IsTextAt : Table → Option Hidden → Viewed → ℕ → List ℕ → Type 0
IsTextAt table hidden view n text =
    (sheet : SheetView) × (cells : List FormattedCell)
    × (slice_get view.book.contents n ≡ Some sheet) × (slice_get view.formatted n ≡ Some cells)
    × IsCellsText table.is_exact table hidden view sheet.cells cells text

abbrev pub BeginsTextAt : Table → Option Hidden → Viewed → ℕ → List ℕ → Type 0
BeginsTextAt table hidden view n text =
    (sheet : SheetView) × (cells : List FormattedCell)
    × (slice_get view.book.contents n ≡ Some sheet) × (slice_get view.formatted n ≡ Some cells)
    × BeginsCellsText table.is_exact table hidden view sheet.cells cells text

-- of the sheet that is chosen, and of that what is asked for
abbrev pub IsTableOf : SheetChoice → Table → Sight → XlsOptions → List ℕ → Viewed → List ℕ → Type 0
IsTableOf choice table sight options stream view text =
    (n : ℕ) × (Some n ≡ chosen_index choice view.book.sheets)
    × (hidden : Option Hidden) × SkipsBy sight options stream view n hidden × IsTextAt table hidden view n text

abbrev pub BeginsTableOf : SheetChoice → Table → Sight → XlsOptions → List ℕ → Viewed → List ℕ → Type 0
BeginsTableOf choice table sight options stream view text =
    (n : ℕ) × (Some n ≡ chosen_index choice view.book.sheets)
    × (hidden : Option Hidden) × SkipsBy sight options stream view n hidden × BeginsTextAt table hidden view n text

-- ---- what is written

-- the text of these cells was written, a prefix of a part of it, or nothing where memory ran out
abbrev pub WritesCells : Table → Option Hidden → Viewed → List CellEntry → List FormattedCell
    → SinkState → SinkState → Result (Unit {0}) Stop → Type 0
WritesCells table hidden view entries cells before after (Ok x) =
    (text : List ℕ) × IsCellsText table.is_exact table hidden view entries cells text × Wrote before after text
WritesCells table hidden view entries cells before after (Err s) =
    ((s ≡ Memory) × IsUntouched before after)
    ⊎ ((text : List ℕ) × BeginsCellsText table.is_exact table hidden view entries cells text × Stops before [] after text s)

-- the text of the sheet at an index likewise
abbrev pub WritesSheetAt : Table → Option Hidden → Viewed → ℕ → SinkState → SinkState → Result (Unit {0}) Stop → Type 0
WritesSheetAt table hidden view n before after (Ok x) = (text : List ℕ) × IsTextAt table hidden view n text × Wrote before after text
WritesSheetAt table hidden view n before after (Err s) =
    ((s ≡ Memory) × IsUntouched before after)
    ⊎ ((text : List ℕ) × BeginsTextAt table hidden view n text × Stops before [] after text s)
