-- The reference items of a project directory ([MS-OVBA] PROJECTREFERENCES), up to the number 000F.
use Rattle.std.specs.Prelude.{◌≡◌, ℕ, List, [], ◌∷◌, codes, drop, Option, Some, None, Result, Ok, Err, ◌==◌, if◌then◌else◌}
use Rattle.std.specs.List.{starts_with}
use Rattle.std.specs.Prelude.{nat_eq}
use Rattle.std.specs.String.{string_bytes}
use Rattle.xls_text.specs.declared.encoding.XlsEncoding.{XlsEncoding}
use Rattle.xls_vba.specs.declared.error.VbaError.{VbaError}
use Rattle.xls_vba.specs.declared.error.VbaError.TheVariants as errors
use Rattle.xls_vba.specs.declared.error.VbaPart.TheVariants as parts
use Rattle.xls_vba.specs.declared.items.Item as code
use Rattle.xls_vba.specs.declared.items.Item.TheVariants as items
use Rattle.xls_vba.specs.Fields.{◌>>=◌, skip, u16_from, id_from, var_from, skip_rec}
use Rattle.xls_vba.specs.Libids.{Said, text_of, libid_of, libid_view}

-- a name begins a reference; one libid or two; the path of a project
pub data Element : Type 0 where
  named : (name : List ℕ) → Element
  registered : (libid : Option Said) → Element
  control : (first second : Option Said) → Element
  project : (path : List ℕ) → Element

-- an item as the code has it
abbrev pub element_of : code.Item → Element
element_of (items.Named name) = named (string_bytes name)
element_of (items.Registered libid) = registered (libid_view libid)
element_of (items.Control first second) = control (libid_view first) (libid_view second)
element_of (items.Project path) = project (string_bytes path)

-- a length and so many bytes of text
unfoldable pub text_from : XlsEncoding → List ℕ → Result (List ℕ × List ℕ) VbaError
text_from page bytes = do
  text ← var_from bytes
  Ok (text_of page text.0, text.1)

-- a length and so many bytes of a libid
unfoldable pub libid_from : XlsEncoding → List ℕ → Result (Option Said × List ℕ) VbaError
libid_from page bytes = do
  libid ← var_from bytes
  said ← libid_of page libid.0
  Ok (said, libid.1)

-- what an item is, or None at the end, and what follows it
abbrev pub Reading : Type 0
Reading = Result (Option Element × List ℕ) VbaError

-- REFERENCENAME
unfoldable pub named_from : XlsEncoding → List ℕ → Reading
named_from page bytes = do
  name ← text_from page bytes
  unicode ← skip_rec 0x3E name.1
  Ok (Some (named name.0), unicode)

-- REFERENCEORIGINAL
unfoldable pub original_from : XlsEncoding → List ℕ → Reading
original_from page bytes = do
  libid ← libid_from page bytes
  Ok (Some (registered libid.0), libid.1)

-- a name between the two libids of a control, up to the number 0030
unfoldable pub extended_from : List ℕ → Result (List ℕ) VbaError
extended_from bytes = do
  name ← var_from bytes
  unicode ← skip_rec 0x3E name.1
  id_from 0x30 unicode

-- the second number of a control: 0030, or 0016 with a name between
unfoldable pub second_from : List ℕ → Result (List ℕ) VbaError
second_from bytes = do
  id ← u16_from bytes
  if id.0 == 0x30 then Ok id.1
      else if id.0 == 0x16 then extended_from id.1
      else Err (errors.Unknown parts.ReferenceControl id.0)

-- REFERENCECONTROL
unfoldable pub control_from : XlsEncoding → List ℕ → Reading
control_from page bytes = do
  size ← skip 4 bytes
  twiddled ← libid_from page size
  reserved ← skip 6 twiddled.1
  extended ← second_from reserved
  size ← skip 4 extended
  libid ← libid_from page size
  rest ← skip 26 libid.1
  Ok (Some (control twiddled.0 libid.0), rest)

-- REFERENCEREGISTERED
unfoldable pub registered_from : XlsEncoding → List ℕ → Reading
registered_from page bytes = do
  size ← skip 4 bytes
  libid ← libid_from page size
  rest ← skip 6 libid.1
  Ok (Some (registered libid.0), rest)

-- a path without `*\C` at its start
abbrev pub after_mark : List ℕ → List ℕ
after_mark path = if starts_with nat_eq path (codes "*\\C") then drop 3 path else path

-- REFERENCEPROJECT: the first of two paths
unfoldable pub project_from : XlsEncoding → List ℕ → Reading
project_from page bytes = do
  size ← skip 4 bytes
  absolute ← text_from page size
  relative ← var_from absolute.1
  rest ← skip 6 relative.1
  Ok (Some (project (after_mark absolute.0)), rest)

-- one item, or None at the end of the references
unfoldable pub item_from : XlsEncoding → List ℕ → Reading
item_from page bytes = do
  id ← u16_from bytes
  if id.0 == 0x0F then Ok (None, id.1)
      else if id.0 == 0x16 then named_from page id.1
      else if id.0 == 0x33 then original_from page id.1
      else if id.0 == 0x2F then control_from page id.1
      else if id.0 == 0x0D then registered_from page id.1
      else if id.0 == 0x0E then project_from page id.1
      else Err (errors.Unknown parts.CheckId id.0)

-- items one after the other, and what follows them
abbrev pub ProjectHead : XlsEncoding → List ℕ → List Element → List ℕ → Type 0
ProjectHead page bytes [] after = bytes ≡ after
ProjectHead page bytes (e ∷ es) after =
    (mid : List ℕ) × (item_from page bytes ≡ Ok (Some e, mid)) × ProjectHead page mid es after

-- the items up to the end of the references, and what follows it
abbrev pub Items : XlsEncoding → List ℕ → List Element → List ℕ → Type 0
Items page bytes es rest =
    (end : List ℕ) × ProjectHead page bytes es end × (item_from page end ≡ Ok (None, rest))

-- whole items, and then the first fault of the next
abbrev pub ItemsFault : XlsEncoding → List ℕ → VbaError → Type 0
ItemsFault page bytes e =
    (es : List Element) × (at : List ℕ) × ProjectHead page bytes es at × (item_from page at ≡ Err e)
