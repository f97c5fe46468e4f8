-- Words of private calls, for the proofs.
use Rattle.std.specs.Prelude.{◌≡◌, ◌⊎◌, ℕ, ◌≤◌, ◌==◌, Bool, true, List, [], Option, Some, None, Result, Ok, Err, Vec, false, ◌++◌, length}
use Rattle.std.specs.Global.{Global}
use Rattle.csv.specs.Writing.{default_writer, field_text, writer_setup, fields_written, has_written, writer_under, writer_pending}
use Rattle.csv.specs.declared.writer.Writer.{Writer}
use Rattle.xls_data.specs.Refs.{ref_content_of, ref_text}
use Rattle.xls_data.specs.declared.refs.DataRef.{DataRef}
use Rattle.xls_view.specs.Formats.{FormattedCell}
use Rattle.xls_output.specs.Output.{Buffers, GivesUp, Output}
use Rattle.xls_output.specs.declared.stop.Stop.{Stop}
use Rattle.xls_view.specs.declared.value.SheetCell.{SheetCell}
use Rattle.xls_lines.specs.Days.{date_text, last_day_in, serial_date}
use Rattle.xls_csv.specs.Fields.{field}
use Rattle.xls_csv.specs.Boxes.{BeginsRow, FieldForm, IsFields, IsSeparated}
use Rattle.xls_csv.specs.Walk.{Formatted, content_in}

-- ---- cells

-- without a next cell there are no others
abbrev pub IsEnded : Option SheetCell → List FormattedCell → Type 0
IsEnded None others = others ≡ []
IsEnded (Some cell) others = Unit {0}

-- the serial day of a value that is shown as a date, with its date system; every other value is shown
-- as it is printed
abbrev pub IsDisplayedDay : DataRef → Option (ℕ × Bool) → Type 0
IsDisplayedDay value None = field (ref_content_of value) ≡ ref_text value
IsDisplayedDay value (Some day) =
    (1 ≤ day.0) × (day.0 ≤ last_day_in day.1)
    × (field (ref_content_of value) ≡ date_text (serial_date day.1 day.0))

-- a writer with the defaults of `csv`, between two records
pub record IsBetweenRecords (w : Writer (Vec ℕ Global)) : Type 0 where
  pub setup : writer_setup w ≡ default_writer
  pub fields : fields_written w ≡ 0
  pub wrote : has_written w ≡ false

-- what was written into it
abbrev pub written : Writer (Vec ℕ Global) → List ℕ
written w = (writer_under w).items ++ writer_pending w

-- ---- fields

-- the fields of contents, whatever their formats are, as the default writer of `csv` writes them
abbrev pub csv_fields : FieldForm
csv_fields =
    record { delimiter = 44; IsField = λ value text. text ≡ field_text default_writer (field (content_in value)) }

-- the fields of a row were gathered, and it is told whether they are no byte; or a prefix of what was kept and
-- of the first fields was written, and then it was given up
abbrev pub PutsFields : FieldForm → List Formatted → Output → Output → Result Bool Stop → Type 0
PutsFields form row before after (Ok is_bare) =
    (text : List ℕ) × (IsFields form row text × (is_bare ≡ (length text == 0))) × Buffers before after text
PutsFields form row before after (Err e) = (text : List ℕ) × BeginsRow form row text × GivesUp before after text e

-- the next field of a row: the first alone, and each other one after a delimiter
abbrev pub IsNextField : FieldForm → Bool → Formatted → List ℕ → Type 0
IsNextField form true value text = form.IsField value text
IsNextField form false value text = IsSeparated form value text

-- it was gathered, and it is told whether it is no byte; or a prefix of what was kept, and of it or of nothing, was
-- written, and then it was given up
abbrev pub PutsNext : FieldForm → Bool → Formatted → Output → Output → Result Bool Stop → Type 0
PutsNext form is_first value before after (Ok is_empty) =
    (text : List ℕ) × (IsNextField form is_first value text × (is_empty ≡ (length text == 0))) × Buffers before after text
PutsNext form is_first value before after (Err e) =
    (text : List ℕ) × ((text ≡ []) ⊎ IsNextField form is_first value text) × GivesUp before after text e
