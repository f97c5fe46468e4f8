-- The fields of cells as people read them, by RFC 4180: their values under their number formats, or what Excel shows.
use Rattle.std.specs.Prelude.{◌≡◌, ℕ, List, [], Option, Some, None, encode_utf8_all}
use Rattle.std.specs.Fmt.{signed_decimal}
use Rattle.xls_data.specs.Content.{Content, int, float, text, truth, date, iso_date, iso_duration, failure, nothing}
use Rattle.xls_data.specs.Errors.{error_text}
use Rattle.xls_decimals.specs.Decimals.{IsDecimal}
use Rattle.xls_decimals.specs.Moments.{IsDateOrDuration}
use Rattle.xls_view.specs.Viewing.{Viewed}
use Rattle.xls_cell_formats.specs.CellCodes.{code_of_xf}
use Rattle.xls_cell_formats.specs.Contents.{IsContentShown}
use Rattle.xls_cell_formats.specs.Numbers.{content_under}
use Rattle.xls_csv.specs.Boxes.{FieldForm}
use Rattle.xls_csv.specs.Walk.{Formatted}
use Rattle.xls_readable.specs.Csv.{csv_field}
use Rattle.xls_readable.specs.declared.choices.FieldStyle.{FieldStyle}
use Rattle.xls_readable.specs.declared.choices.FieldStyle.TheVariants.{Values, Shown}
use Rattle.xls_readable.specs.Values.{truth_text}
use Rattle.xls_tables.specs.declared.gathered.TableForm.{TableForm}

-- the text of a content in UTF-8: numbers in decimal, texts as they are, dates and durations as
-- xls_decimals has them, the word of an error, nothing of a blank
abbrev pub IsContentText : Content → List ℕ → Type 0
IsContentText (int n) bytes = bytes ≡ signed_decimal n
IsContentText (float n) bytes = IsDecimal n bytes
IsContentText (text cs) bytes = bytes ≡ encode_utf8_all cs
IsContentText (truth b) bytes = bytes ≡ truth_text b
IsContentText (date d) bytes = IsDateOrDuration d bytes
IsContentText (iso_date cs) bytes = bytes ≡ encode_utf8_all cs
IsContentText (iso_duration cs) bytes = bytes ≡ encode_utf8_all cs
IsContentText (failure e) bytes = bytes ≡ error_text e
IsContentText nothing bytes = bytes ≡ []

-- the field of a content
abbrev pub IsContentField : ℕ → Content → List ℕ → Type 0
IsContentField delimiter content field =
    (bytes : List ℕ) × IsContentText content bytes × (field ≡ csv_field delimiter bytes)

-- the field of a text that is shown
abbrev pub IsShownField : ℕ → (List ℕ → Type 0) → List ℕ → Type 0
IsShownField delimiter IsShown field =
    (shown : List ℕ) × IsShown shown × (field ≡ csv_field delimiter (encode_utf8_all shown))

-- the code of the format of a workbook's cell
abbrev pub code_in : Viewed → Formatted → List ℕ
code_in view cell = code_of_xf view.codes view.identifiers cell.1

-- what Excel shows of a cell, by that code
abbrev pub IsCellShown : Viewed → Formatted → List ℕ → Type 0
IsCellShown view cell shown = IsContentShown (code_in view cell) view.book.is_1904 cell.0 shown

-- the field of a cell: of its content under that code, or of what Excel shows
abbrev pub IsCellField : FieldStyle → ℕ → Viewed → Formatted → List ℕ → Type 0
IsCellField Values delimiter view cell field =
    IsContentField delimiter (content_under (code_in view cell) view.book.is_1904 cell.0) field
IsCellField Shown delimiter view cell field = IsShownField delimiter (IsCellShown view cell) field

-- the fields of a workbook's boxes in a style, with this delimiter
abbrev pub form_fields : FieldStyle → ℕ → Viewed → FieldForm
form_fields style delimiter view = record { delimiter = delimiter; IsField = IsCellField style delimiter view }

-- as they are without a workbook's formats: of the contents alone
abbrev pub plain_fields : ℕ → FieldForm
plain_fields delimiter = record { delimiter = delimiter; IsField = λ cell. IsContentField delimiter cell.0 }

abbrev pub table_fields : TableForm → Option Viewed → FieldForm
table_fields form None = plain_fields form.delimiter
table_fields form (Some view) = form_fields form.style form.delimiter view
