-- LabelSst ([MS-XLS] LabelSst): row, column, XF index, and the index (isst) of a string of the table in
-- bytes 6 to 9; no cell where the table has no such string.
use Rattle.std.specs.Prelude.{ℕ, List, take, drop, slice_get, Option, Result, Ok}
use Rattle.std.specs.Option.{option_map}
use Rattle.xls_bytes.specs.Numbers.{le}
use Rattle.xls_stream.specs.declared.part.Part.TheVariants as parts
use Rattle.xls_data.specs.Content.{text}
use Rattle.xls_record.specs.declared.error.XlsError.{XlsError}
use Rattle.xls_record.specs.Reading.{◌>>◌, at_least}
use Rattle.xls_biff.specs.Cells.{CellEntry, Position, position_at}

-- the cell of an index at a position
abbrev pub shared_entry : List (List ℕ) → Position × ℕ → Option CellEntry
shared_entry strings x = option_map (λ cs. (x.0, text cs)) (slice_get strings x.1)

abbrev pub label_sst_at : List (List ℕ) → List ℕ → Result (Option CellEntry) XlsError
label_sst_at strings body = do
  at_least 10 parts.LabelSst body
  Ok (shared_entry strings (position_at body, le (take 4 (drop 6 body))))
