-- Fields of a project directory ([MS-OVBA] dir Stream) from left to right, each with the bytes
-- after it, or the first field that isn't there or differs.
use Rattle.std.specs.Prelude.{◌≡◌, ℕ, List, length, take, drop, Result, Ok, Err, nat_lt, ◌==◌, if◌then◌else◌}
use Rattle.xls_bytes.specs.Numbers.{le}
use Rattle.xls_text.specs.declared.encoding.XlsEncoding.{XlsEncoding}
use Rattle.xls_text.specs.declared.error.CfbError.{CfbError}
use Rattle.xls_text.specs.Pages as text
use Rattle.xls_vba.specs.declared.error.VbaError.{VbaError}
use Rattle.xls_vba.specs.declared.error.VbaError.TheVariants as errors

-- what follows where a field is there
infixl 10 ◌>>=◌
abbrev pub ◌>>=◌ : {A B : Type 0} → Result A VbaError → (A → Result B VbaError) → Result B VbaError
(Ok x) >>= f = f x
(Err e) >>= f = Err e

-- a refusal is that of the reading, unless memory ran out
abbrev pub Fails : {Y : Type 0} → VbaError → Result Y VbaError → Type 0
Fails errors.Memory read = Unit {0}
Fails e read = read ≡ Err e

-- what a reader returned, seen by view, is what reading gives, unless memory ran out
abbrev pub Gives : {X Y : Type 0} → (X → Y) → Result X VbaError → Result Y VbaError → Type 0
Gives view (Ok x) read = read ≡ Ok (view x)
Gives view (Err e) read = Fails e read

-- the first n bytes
abbrev pub bytes_from : ℕ → List ℕ → Result (List ℕ × List ℕ) VbaError
bytes_from n bytes =
    if nat_lt (length bytes) n then Err errors.Truncated else Ok (take n bytes, drop n bytes)

-- skips the first n bytes
unfoldable pub skip : ℕ → List ℕ → Result (List ℕ) VbaError
skip n bytes = do
  prefix ← bytes_from n bytes
  Ok prefix.1

-- a number of n bytes
abbrev pub number_from : ℕ → List ℕ → Result (ℕ × List ℕ) VbaError
number_from n bytes =
    if nat_lt (length bytes) n then Err errors.Truncated else Ok (le (take n bytes), drop n bytes)

-- a number of 16 bits, and one of 32
abbrev pub u16_from : List ℕ → Result (ℕ × List ℕ) VbaError
u16_from = number_from 2

abbrev pub u32_from : List ℕ → Result (ℕ × List ℕ) VbaError
u32_from = number_from 4

-- the number x of a record
unfoldable pub id_from : ℕ → List ℕ → Result (List ℕ) VbaError
id_from x bytes = do
  id ← u16_from bytes
  if id.0 == x then Ok id.1 else Err (errors.InvalidRecordId x id.0)

-- a 32-bit length and so many bytes
unfoldable pub var_from : List ℕ → Result (List ℕ × List ℕ) VbaError
var_from bytes = do
  n ← u32_from bytes
  bytes_from n.0 n.1

-- a record of the number x
unfoldable pub rec_from : ℕ → List ℕ → Result (List ℕ × List ℕ) VbaError
rec_from x bytes = do
  size ← id_from x bytes
  var_from size

-- skips a record of the number x
unfoldable pub skip_rec : ℕ → List ℕ → Result (List ℕ) VbaError
skip_rec x bytes = do
  body ← rec_from x bytes
  Ok body.1

-- a code page that is read
abbrev pub kept_page : Result XlsEncoding CfbError → Result XlsEncoding VbaError
kept_page (Ok page) = Ok page
kept_page (Err error) = Err (errors.Cfb error)

abbrev pub page_from : ℕ → Result XlsEncoding VbaError
page_from number = kept_page (text.page_of number)

-- skips the record of the number 004A (PROJECTCOMPATVERSION), which may be left out
unfoldable pub skip_4a : List ℕ → Result (List ℕ) VbaError
skip_4a bytes = do
  id ← u16_from bytes
  if id.0 == 0x4A then skip 10 bytes else Ok bytes

-- PROJECTNAME, PROJECTDOCSTRING and PROJECTHELPFILEPATH
unfoldable pub information_from : List ℕ → Result (List ℕ) VbaError
information_from bytes = do
  name ← skip_rec 0x04 bytes
  text ← skip_rec 0x05 name
  unicode ← skip_rec 0x40 text
  path ← skip_rec 0x06 unicode
  skip_rec 0x3D path

-- PROJECTINFORMATION: the page, and what follows
unfoldable pub header_from : List ℕ → Result (XlsEncoding × List ℕ) VbaError
header_from bytes = do
  kind ← skip 10 bytes
  compat ← skip_4a kind
  lcid ← skip 20 compat
  before ← skip 6 lcid
  number ← u16_from before
  page ← page_from number.0
  information ← information_from number.1
  version ← skip 32 information
  constants ← skip_rec 0x0C version
  unicode ← skip_rec 0x3C constants
  Ok (page, unicode)
