-- The rows of a sheet, and what is read of each.
use Rattle.std.specs.Prelude.{◌≡◌, ◌⊎◌, ℕ, List, [], ◌∷◌, ◌++◌, Result, Ok, Err, Some, codes}
use Rattle.std.specs.Str.{chars}
use Rattle.xls_data.specs.Data.{content_of, is_nothing}
use Rattle.xls_data.specs.declared.values.Data.{Data}
use Rattle.xls_range.specs.Grid.{Grid}
use Rattle.xls_rows.specs.Choices.{Choice, every, wanted}
use Rattle.xls_rows.specs.Ranges.{rows_read}
use Rattle.xls_rows.specs.Refusals.{Refusal, Refuses}
use Rattle.xls_rows.specs.Rows.{Row}
use Rattle.xls_rows.specs.declared.error.DeError.{DeError}
use Rattle.xls_rows.specs.declared.error.DeError.TheVariants as refusal
use Rattle.xls_record.specs.declared.error.XlsError.{XlsError}
use Rattle.xls_meaning.specs.Reading.{SheetView}
use Rattle.xls_open.specs.Opening.{IsOpened, default_options}
use Rattle.xls_open.specs.Workbook.{Workbook, view_named}
use Rattle.xls_book.specs.LookUps.{Equal, IsRangeOf}
use Rattle.example_rows.specs.Entries.{ReadsEntry}
use Rattle.example_rows.specs.Fields.{ReadsFields}
use Rattle.example_rows.specs.declared.error.LedgerError.{LedgerError}
use Rattle.example_rows.specs.declared.error.LedgerError.TheVariants.{Book, Rows, Memory}
use Rattle.example_rows.specs.declared.entry.Entry.{Entry}
use Rattle.example_rows.specs.declared.fields.Fields.{Fields}

-- the cells of the last sheet of a name, in the workbook whose stream these bytes are
abbrev pub IsSheetIn : Equal → List ℕ → List ℕ → Grid Data → Type 0
IsSheetIn eq bytes name range =
    (book : Workbook) × IsOpened default_options book bytes
    × (view : SheetView) × (view_named book (chars name) ≡ Some view)
    × IsRangeOf eq is_nothing book.options.header_row view.cells range

-- the columns of an entry
abbrev pub entry_columns : List (List ℕ)
entry_columns = codes "name" ∷ codes "amount" ∷ []

-- each row gives a value, in the order of the rows
abbrev pub EachGives : {T D : Type 0} → (Row T → Result D DeError → Row T → Type 0)
    → List (Row T) → List D → Type 0
EachGives answers [] [] = Unit {0}
EachGives {T} answers (row ∷ rows) (value ∷ values) =
    ((after : Row T) × answers row (Ok value) after) × EachGives answers rows values
EachGives answers rows values = ⊥

-- the entries of a range whose first row is one of headers
abbrev pub AreEntries : Grid Data → List Entry → Type 0
AreEntries range entries =
    (rows : List (Row Data)) × (rows_read (wanted entry_columns) content_of range ≡ Ok rows)
    × EachGives (λ row answer after. ReadsEntry content_of row answer) rows entries

-- the rows of a range as fields, by all headers of its first row
abbrev pub AreFields : Grid Data → List Fields → Type 0
AreFields range fields =
    (rows : List (Row Data)) × (rows_read every content_of range ≡ Ok rows)
    × EachGives (λ row answer after. ReadsFields content_of row answer) rows fields

-- memory ran out
abbrev pub RanOut : LedgerError → Type 0
RanOut e = (e ≡ Memory) ⊎ (e ≡ Rows refusal.Memory)

-- the refusal is that of the workbook or of its sheet
abbrev pub IsOfBook : LedgerError → Type 0
IsOfBook e = (error : XlsError) × (e ≡ Book error)

-- a row is refused, and those before it give their values
abbrev pub RefusesRow : {T D : Type 0} → (Row T → Result D DeError → Row T → Type 0)
    → List (Row T) → LedgerError → Type 0
RefusesRow {T} {D} answers rows e =
    (done : List (Row T)) × (values : List D) × (row : Row T) × (left : List (Row T))
    × (after : Row T) × (refusal : DeError) × (rows ≡ done ++ (row ∷ left))
    × EachGives answers done values × answers row (Err refusal) after × (e ≡ Rows refusal)

-- the range has no such rows, or a row is refused, or memory ran out
abbrev pub RefusesRange : {D : Type 0} → Choice → (Row Data → Result D DeError → Row Data → Type 0)
    → Grid Data → LedgerError → Type 0
RefusesRange choice answers range e = RanOut e
    ⊎ (((r : Refusal) × (refusal : DeError) × (rows_read choice content_of range ≡ Err r)
    × Refuses r refusal × (e ≡ Rows refusal))
    ⊎ ((rows : List (Row Data)) × (rows_read choice content_of range ≡ Ok rows)
    × RefusesRow answers rows e))
