-- Code pages, and the texts of a workbook stream: bytes in a page, units of one byte and units of
-- two bytes ([MS-XLS] XLUnicodeString and its kin). A text is the list of its characters.
use Rattle.std.specs.Prelude.{ℕ, ◌*◌, ◌/◌, ◌-◌, List, [], ◌∷◌, ◌++◌, length, take, map, min, nat_lt, Option, Some, None, slice_index, if◌then◌else◌, Bool, true, false, Result, Ok, Err, ◌==◌}
use Rattle.std.specs.Char.Utf16.{utf16_lossy_chars}
use Rattle.bstr.specs.Utf8.{lossy_chars}
use Rattle.xls_bytes.specs.Numbers.{le}
use Rattle.xls_text.specs.declared.encoding.XlsEncoding.{XlsEncoding}
use Rattle.xls_text.specs.declared.encoding.XlsEncoding.TheVariants.{Utf16, Windows1252, Utf8, Latin1}
use Rattle.xls_text.specs.declared.error.CfbError.{CfbError}
use Rattle.xls_text.specs.declared.error.CfbError.TheVariants.{CodePageNotFound}

-- U+FFFD
abbrev pub replacement : ℕ
replacement = 0xFFFD

-- the units of each two bytes; a last odd byte is in none
abbrev pub units_of : List ℕ → List ℕ
units_of [] = []
units_of (low ∷ []) = []
units_of (low ∷ high ∷ bytes) = le (low ∷ high ∷ []) ∷ units_of bytes

-- U+FFFD where the number of bytes is odd
abbrev pub odd_mark : List ℕ → List ℕ
odd_mark [] = []
odd_mark (low ∷ []) = replacement ∷ []
odd_mark (low ∷ high ∷ bytes) = odd_mark bytes

-- the characters of the bytes 80 to 9F under page 1252, in order
abbrev pub windows_1252_row : List ℕ
windows_1252_row =
    0x20AC ∷ 0x0081 ∷ 0x201A ∷ 0x0192 ∷ 0x201E ∷ 0x2026 ∷ 0x2020 ∷ 0x2021
    ∷ 0x02C6 ∷ 0x2030 ∷ 0x0160 ∷ 0x2039 ∷ 0x0152 ∷ 0x008D ∷ 0x017D ∷ 0x008F
    ∷ 0x0090 ∷ 0x2018 ∷ 0x2019 ∷ 0x201C ∷ 0x201D ∷ 0x2022 ∷ 0x2013 ∷ 0x2014
    ∷ 0x02DC ∷ 0x2122 ∷ 0x0161 ∷ 0x203A ∷ 0x0153 ∷ 0x009D ∷ 0x017E ∷ 0x0178 ∷ []

-- page 1252: every other byte is its own number
abbrev pub windows_1252 : ℕ → ℕ
windows_1252 b =
    if nat_lt b 0x80 then b
    else if nat_lt b 0xA0 then slice_index windows_1252_row (b - 0x80) else b

-- a byte's character under page 1252, or else the byte's own number
abbrev pub byte_character : Bool → ℕ → ℕ
byte_character true b = windows_1252 b
byte_character false b = b

-- the text of bytes in a page
abbrev pub decoded : XlsEncoding → List ℕ → List ℕ
decoded Utf16 bytes = utf16_lossy_chars (units_of bytes) ++ odd_mark bytes
decoded Windows1252 bytes = map windows_1252 bytes
decoded Utf8 bytes = lossy_chars bytes
decoded Latin1 bytes = bytes

-- whether a string of the stream has units of two bytes, units of one byte, or bytes in the page
pub data Form : Type 0 where
  Wide : Form
  Narrow : Form
  Paged : Form

-- which of them a high-byte flag says, where there is one
abbrev pub form_of : XlsEncoding → Option Bool → Form
form_of page (Some true) = Wide
form_of page (Some false) = Narrow
form_of Utf16 None = Narrow
form_of page None = Paged

-- how many characters of a string are there, and their bytes
abbrev pub taken : Form → List ℕ → ℕ → ℕ × ℕ
taken Wide stream len = (min (length stream / 2) len, 2 * min (length stream / 2) len)
taken form stream len = (min (length stream) len, min (length stream) len)

abbrev pub counts : XlsEncoding → Option Bool → List ℕ → ℕ → ℕ × ℕ
counts page high stream len = taken (form_of page high) stream len

-- the text of a string's bytes
abbrev pub text_in : Form → XlsEncoding → List ℕ → List ℕ
text_in Wide page bytes = utf16_lossy_chars (units_of bytes)
text_in Narrow page bytes = bytes
text_in Paged page bytes = decoded page bytes

-- the text of a string of at most so many characters at the start of a stream
abbrev pub string_text : XlsEncoding → Option Bool → List ℕ → ℕ → List ℕ
string_text page high stream len =
    let form = form_of page high in
    text_in form page (take ((taken form stream len).1) stream)

-- the page of a number
abbrev pub page_of : ℕ → Result XlsEncoding CfbError
page_of n =
    if n == 1200 then Ok Utf16
    else if n == 1252 then Ok Windows1252
    else if n == 65001 then Ok Utf8
    else if n == 28591 then Ok Latin1
    else Err (CodePageNotFound n)
