-- Strings in the body of a record: ShortXLUnicodeString ([MS-XLS] 2.5.240), XLUnicodeString (2.5.294),
-- and the byte strings of the versions before BIFF8. Where the count passes the bytes, the text is
-- the shorter one.
use Rattle.std.specs.Prelude.{ℕ, List, [], ◌==◌, ◌&&◌, Bool, false, if◌then◌else◌, length, take, drop, slice_index, Option, Some, None, Result, Ok}
use Rattle.xls_bytes.specs.Numbers.{le}
use Rattle.xls_text.specs.Pages.{string_text}
use Rattle.xls_text.specs.declared.encoding.XlsEncoding.{XlsEncoding}
use Rattle.xls_stream.specs.StringTable.{is_wide}
use Rattle.xls_stream.specs.declared.part.Part.TheVariants as parts
use Rattle.xls_record.specs.declared.version.Biff.{Biff}
use Rattle.xls_record.specs.declared.error.XlsError.{XlsError}
use Rattle.xls_record.specs.Reading.{◌>>◌, at_least, gives}
use Rattle.xls_record.specs.Version.{is_biff8}

-- ---- what stands before a text

-- the count, the flag of the width if there is one, and the bytes of the text
abbrev pub StringHead : Type 0
StringHead = ℕ × Option Bool × List ℕ

-- a count byte, in BIFF8 a flags byte
abbrev pub short_prefix : Biff → List ℕ → Result StringHead XlsError
short_prefix biff bytes =
    if is_biff8 biff
    then (do
      at_least 2 parts.ShortString bytes
      Ok (slice_index bytes 0, Some (is_wide (slice_index bytes 1)), drop 2 bytes))
    else (do
      at_least 1 parts.ShortString bytes
      Ok (slice_index bytes 0, None, drop 1 bytes))

-- a count of 0 and nothing after it: the empty text, even in BIFF8
abbrev pub is_bare_zero : List ℕ → Bool
is_bare_zero bytes = length bytes == 2 && le (take 2 bytes) == 0

-- a count of two bytes, in BIFF8 a flags byte
abbrev pub string_prefix : Biff → List ℕ → Result StringHead XlsError
string_prefix biff bytes =
    if is_biff8 biff
    then (if is_bare_zero bytes then Ok (0, Some false, [])
    else (do
      at_least 3 parts.Text bytes
      Ok (le (take 2 bytes), Some (is_wide (slice_index bytes 2)), drop 3 bytes)))
    else (do
      at_least 2 parts.Text bytes
      Ok (le (take 2 bytes), None, drop 2 bytes))

-- ---- texts, as lists of characters

-- the text after its count
abbrev pub prefix_text : XlsEncoding → StringHead → List ℕ
prefix_text page prefix = string_text page prefix.1 prefix.2 prefix.0

abbrev pub short_string_at : XlsEncoding → Biff → List ℕ → Result (List ℕ) XlsError
short_string_at page biff bytes = gives (prefix_text page) (short_prefix biff bytes)

abbrev pub string_at : XlsEncoding → Biff → List ℕ → Result (List ℕ) XlsError
string_at page biff bytes = gives (prefix_text page) (string_prefix biff bytes)
