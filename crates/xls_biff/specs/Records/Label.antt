-- Label ([MS-XLS] 2.4.148), and RString likewise: row, column, XF index, and a string.
use Rattle.std.specs.Prelude.{ℕ, List, drop, Result, Ok}
use Rattle.xls_text.specs.declared.encoding.XlsEncoding.{XlsEncoding}
use Rattle.xls_stream.specs.declared.part.Part.TheVariants as parts
use Rattle.xls_data.specs.Content.{text}
use Rattle.xls_record.specs.declared.version.Biff.{Biff}
use Rattle.xls_record.specs.declared.error.XlsError.{XlsError}
use Rattle.xls_record.specs.Reading.{◌>>=◌, ◌>>◌, at_least}
use Rattle.xls_strings.specs.Strings.{string_at}
use Rattle.xls_biff.specs.Cells.{CellEntry, Position, characters_in, position_at}

-- where it stands, and the bytes of its string
abbrev pub label_prefix : List ℕ → Result (Position × List ℕ) XlsError
label_prefix body = do
  at_least 6 parts.Label body
  Ok (position_at body, drop 6 body)

abbrev pub label_at : XlsEncoding → Biff → List ℕ → Result CellEntry XlsError
label_at page biff body = do
  at_least 6 parts.Label body
  cs ← string_at page biff (drop 6 body)
  Ok (position_at body, text cs)

-- a string that isn't decoded, at a position, under a page and a version
abbrev pub label_entry : XlsEncoding → Biff → Position × List ℕ → CellEntry
label_entry page biff x = (x.0, text (characters_in (string_at page biff x.1)))
