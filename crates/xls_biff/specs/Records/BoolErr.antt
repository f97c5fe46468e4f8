-- BoolErr ([MS-XLS] BoolErr): row, column, XF index, and a Bes.
use Rattle.std.specs.Prelude.{ℕ, List, ◌==◌, if◌then◌else◌, slice_index, Result, Ok, Err}
use Rattle.xls_stream.specs.declared.part.Part.TheVariants as parts
use Rattle.xls_data.specs.Content.{Content, truth, failure}
use Rattle.xls_record.specs.declared.error.XlsError.{XlsError}
use Rattle.xls_record.specs.declared.error.XlsError.TheVariants.{Unrecognized}
use Rattle.xls_record.specs.Reading.{◌>>=◌, ◌>>◌, at_least, gives}
use Rattle.xls_biff.specs.Cells.{CellEntry, Position, cell_error, position_at, truth_of}
use Rattle.xls_biff.specs.declared.records.bool_err.Bes.{Bes}
use Rattle.xls_biff.specs.declared.records.bool_err.Bes.TheVariants as bes

-- Bes ([MS-XLS] Bes): a byte (bBoolErr), and whether it is an error's code (fError)
abbrev pub bes_content : ℕ → ℕ → Result Content XlsError
bes_content byte is_error =
    if is_error == 0 then Ok (truth_of byte)
    else if is_error == 1 then gives failure (cell_error byte)
    else Err (Unrecognized parts.FError is_error)

-- a Bes by its content, and one at a position
abbrev pub bes_value : Bes → Content
bes_value (bes.Bool b) = truth b
bes_value (bes.Error e) = failure e

abbrev pub bes_entry : Position × Bes → CellEntry
bes_entry c = (c.0, bes_value c.1)

abbrev pub bool_err_at : List ℕ → Result CellEntry XlsError
bool_err_at body = do
  at_least 8 parts.BoolErr body
  content ← bes_content (slice_index body 6) (slice_index body 7)
  Ok (position_at body, content)
