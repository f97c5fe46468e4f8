-- Format ([MS-XLS] 2.4.126): an identifier (ifmt) in bytes 0 and 1, and the format's text.
use Rattle.std.specs.Prelude.{ℕ, List, Bool, ◌||◌, if◌then◌else◌, take, drop, Option, Some, None, Result, Ok, Err}
use Rattle.xls_bytes.specs.Numbers.{le}
use Rattle.xls_text.specs.declared.encoding.XlsEncoding.{XlsEncoding}
use Rattle.xls_stream.specs.declared.part.Part.TheVariants as parts
use Rattle.xls_dates.specs.Builtin.{between}
use Rattle.xls_dates.specs.Classes.{class_of}
use Rattle.xls_dates.specs.declared.formats.CellFormat.{CellFormat}
use Rattle.xls_record.specs.declared.version.Biff.{Biff}
use Rattle.xls_record.specs.declared.error.XlsError.{XlsError}
use Rattle.xls_record.specs.declared.error.XlsError.TheVariants.{InvalidFormat}
use Rattle.xls_record.specs.Reading.{◌>>=◌, ◌>>◌, at_least}
use Rattle.xls_strings.specs.Strings.{short_string_at, string_at}
use Rattle.xls_record.specs.Version.{is_biff8}

abbrev pub is_format_id : ℕ → Bool
is_format_id n =
    between 5 8 n || between 23 26 n || between 41 44 n || between 63 66 n || between 164 382 n

-- an identifier that a Format may have
abbrev pub format_id : ℕ → Result (Unit {0}) XlsError
format_id n = if is_format_id n then Ok tt else Err (InvalidFormat n)

-- a counted string in BIFF8, a short one before
abbrev pub format_text_at : XlsEncoding → Biff → List ℕ → Result (List ℕ) XlsError
format_text_at page biff bytes =
    if is_biff8 biff then string_at page biff bytes else short_string_at page biff bytes

-- the identifier, whichever it is, and the text, which is the format's code
abbrev pub format_code_at : XlsEncoding → Biff → List ℕ → Result (ℕ × List ℕ) XlsError
format_code_at page biff body = do
  at_least 2 parts.Format body
  cs ← format_text_at page biff (drop 2 body)
  Ok (le (take 2 body), cs)

-- the class of a format's code, where a Format may have the identifier
abbrev pub class_from : ℕ × List ℕ → Option (ℕ × CellFormat)
class_from f = if is_format_id f.0 then Some (f.0, class_of f.1) else None

-- the identifier and the class of the text
abbrev pub format_at : XlsEncoding → Biff → List ℕ → Result (ℕ × CellFormat) XlsError
format_at page biff body = do
  at_least 2 parts.Format body
  format_id (le (take 2 body))
  cs ← format_text_at page biff (drop 2 body)
  Ok (le (take 2 body), class_of cs)
