-- The modules of a project directory ([MS-OVBA] PROJECTMODULES, MODULE).
use Rattle.std.specs.Prelude.{ℕ, zero, suc, List, [], ◌∷◌, map, Result, Ok, Err, ◌==◌, ◌||◌, if◌then◌else◌}
use Rattle.std.specs.String.{string_bytes}
use Rattle.xls_bytes.specs.Numbers.{le}
use Rattle.xls_text.specs.declared.encoding.XlsEncoding.{XlsEncoding}
use Rattle.xls_vba.specs.declared.error.VbaError.{VbaError}
use Rattle.xls_vba.specs.declared.error.VbaError.TheVariants as errors
use Rattle.xls_vba.specs.declared.error.VbaPart.TheVariants as parts
use Rattle.xls_vba.specs.declared.modules.Module.{Module}
use Rattle.xls_vba.specs.Fields.{◌>>=◌, skip, u16_from, u32_from, id_from, rec_from, skip_rec}
use Rattle.xls_vba.specs.Libids.{text_of}

-- a name, the name of a stream, and an offset in it
pub record Mod : Type 0 where
  pub name : List ℕ
  pub stream_name : List ℕ
  pub text_offset : ℕ

-- a module as the code has it
abbrev pub module_view : Module → Mod
module_view m = record {
  name = string_bytes m.name;
  stream_name = string_bytes m.stream_name;
  text_offset = m.text_offset;
}

abbrev pub module_views : List Module → List Mod
module_views = map module_view

-- the text of a record of the number x
unfoldable pub rec_text_from : XlsEncoding → ℕ → List ℕ → Result (List ℕ × List ℕ) VbaError
rec_text_from page x bytes = do
  body ← rec_from x bytes
  Ok (text_of page body.0, body.1)

-- skips MODULENAMEUNICODE, which may be left out
unfoldable pub skip_47 : List ℕ → Result (List ℕ) VbaError
skip_47 bytes = do
  id ← u16_from bytes
  if id.0 == 0x47 then skip_rec 0x47 bytes else Ok bytes

-- MODULEOFFSET
unfoldable pub offset_from : List ℕ → Result (ℕ × List ℕ) VbaError
offset_from bytes = do
  id ← id_from 0x31 bytes
  size ← skip 4 id
  u32_from size

-- MODULEHELPCONTEXT and MODULECOOKIE
unfoldable pub cookie_from : List ℕ → Result (List ℕ) VbaError
cookie_from bytes = do
  help ← id_from 0x1E bytes
  after ← skip 8 help
  cookie ← id_from 0x2C after
  skip 6 cookie

-- MODULETYPE, one of two numbers
unfoldable pub kind_from : List ℕ → Result (List ℕ) VbaError
kind_from bytes = do
  id ← u16_from bytes
  if (id.0 == 0x21) || (id.0 == 0x22) then Ok id.1 else Err (errors.Unknown parts.ModuleKind id.0)

-- after MODULEREADONLY and MODULEPRIVATE more comes, after the terminator four bytes
abbrev pub end_by : ℕ → List ℕ → Result (List ℕ) VbaError → Result (List ℕ) VbaError
end_by n rest more =
    if n == 0x2B then skip 4 rest
    else if (n == 0x25) || (n == 0x28) then more
    else Err (errors.Unknown parts.RecordId n)

-- four bytes and a number, until the terminator
abbrev pub end_from : List ℕ → Result (List ℕ) VbaError
end_from (a ∷ b ∷ c ∷ d ∷ low ∷ high ∷ rest) =
    end_by (le (low ∷ high ∷ [])) rest (end_from rest)
end_from less = Err errors.Truncated

-- MODULENAME to MODULEDOCSTRING: the two names
unfoldable pub names_from : XlsEncoding → List ℕ → Result ((List ℕ × List ℕ) × List ℕ) VbaError
names_from page bytes = do
  name ← rec_text_from page 0x19 bytes
  unicode ← skip_47 name.1
  stream ← rec_text_from page 0x1A unicode
  second ← skip_rec 0x32 stream.1
  document ← skip_rec 0x1C second
  third ← skip_rec 0x48 document
  Ok ((name.0, stream.0), third)

-- one module
unfoldable pub module_from : XlsEncoding → List ℕ → Result (Mod × List ℕ) VbaError
module_from page bytes = do
  names ← names_from page bytes
  offset ← offset_from names.1
  cookie ← cookie_from offset.1
  kind ← kind_from cookie
  rest ← end_from kind
  Ok (record { name = names.0.0; stream_name = names.0.1; text_offset = offset.0 }, rest)

-- n modules one after the other
abbrev pub modules_from : XlsEncoding → ℕ → List ℕ → Result (List Mod) VbaError
modules_from page zero bytes = Ok []
modules_from page (suc n) bytes =
    module_from page bytes >>= λ m. modules_from page n m.1 >>= λ ms. Ok (m.0 ∷ ms)

-- their count and a cookie, and the modules
unfoldable pub modules_part : XlsEncoding → List ℕ → Result (List Mod) VbaError
modules_part page bytes = do
  size ← skip 4 bytes
  count ← u16_from size
  cookie ← skip 8 count.1
  modules_from page count.0 cookie
