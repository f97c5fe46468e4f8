-- Sections of a property stream ([MS-OLEPS] PropertySetStream, PropertySet).
use Rattle.std.specs.Prelude.{ℕ, ◌+◌, List, [], ◌∷◌, take, drop, Option, Some, None, nat_lt, ◌==◌, if◌then◌else◌}
use Rattle.std.specs.Option.{option_or, unwrap_or}
use Rattle.std.specs.Str.{bytes_eq}
use Rattle.xls_props.specs.Bytes.{bytes_at, u16_at, u32_at}
use Rattle.xls_props.specs.Entries.{entries_of, first_of}
use Rattle.xls_props.specs.Values.{◌>>=◌, Value, field, page_in, app_version}
use Rattle.xls_props.specs.Names.{Name, names_at}
use Rattle.xls_props.specs.Custom.{customs_of}

-- the bytes from an offset over the 32-bit size that stands there, cut at the end
abbrev pub sized_at : List ℕ → ℕ → Option (List ℕ)
sized_at stream offset = u32_at stream offset >>= λ size. Some (take size (drop offset stream))

-- the section of the pair at a place: an identifier and a 32-bit offset
abbrev pub pair_at : List ℕ → List ℕ → ℕ → Option (List ℕ)
pair_at id stream at = bytes_at stream at 16 >>= λ found.
    if bytes_eq found id then (u32_at stream (at + 16) >>= sized_at stream) else None

-- the first of at most two pairs that matches and whose size can be read
abbrev pub section_in : List ℕ → List ℕ → ℕ → Option (List ℕ)
section_in id stream count =
    option_or (if nat_lt 0 count then pair_at id stream 28 else None)
    (if nat_lt 1 count then pair_at id stream 48 else None)

-- the section of an identifier: the mark FFFE, at 24 the count of the pairs
abbrev pub section_of : List ℕ → List ℕ → Option (List ℕ)
section_of id stream = u16_at stream 0 >>= λ mark.
    if mark == 0xFFFE then (u32_at stream 24 >>= section_in id stream) else None

-- the section of an identifier, without bytes where it isn't there
abbrev pub section_from : List ℕ → Option (List ℕ) → List ℕ
section_from id stream = unwrap_or (stream >>= section_of id) []

-- FMTID_SummaryInformation
abbrev pub summary_id : List ℕ
summary_id = 0xE0 ∷ 0x85 ∷ 0x9F ∷ 0xF2 ∷ 0xF9 ∷ 0x4F ∷ 0x68 ∷ 0x10
    ∷ 0xAB ∷ 0x91 ∷ 0x08 ∷ 0x00 ∷ 0x2B ∷ 0x27 ∷ 0xB3 ∷ 0xD9 ∷ []

-- FMTID_DocSummaryInformation
abbrev pub document_id : List ℕ
document_id = 0x02 ∷ 0xD5 ∷ 0xCD ∷ 0xD5 ∷ 0x9C ∷ 0x2E ∷ 0x1B ∷ 0x10
    ∷ 0x93 ∷ 0x97 ∷ 0x08 ∷ 0x00 ∷ 0x2B ∷ 0x2C ∷ 0xF9 ∷ 0xAE ∷ []

-- FMTID_UserDefinedProperties
abbrev pub custom_id : List ℕ
custom_id = 0x05 ∷ 0xD5 ∷ 0xCD ∷ 0xD5 ∷ 0x9C ∷ 0x2E ∷ 0x1B ∷ 0x10
    ∷ 0x93 ∷ 0x97 ∷ 0x08 ∷ 0x00 ∷ 0x2B ∷ 0x2C ∷ 0xF9 ∷ 0xAE ∷ []

-- a field of a section
abbrev pub field_of : ℕ → List ℕ → Option Value
field_of n s = field n s (entries_of s) (page_in (entries_of s) s)

-- the application's version in a section
abbrev pub version_of : List ℕ → Option (List ℕ)
version_of s = app_version s (entries_of s)

-- the names of the dictionary that an offset points to
abbrev pub names_of : List ℕ → Option ℕ → List Name
names_of s None = []
names_of s (Some at) = names_at (page_in (entries_of s) s) s at

-- the names of the dictionary at the first entry 0
abbrev pub section_names : List ℕ → List Name
section_names s = names_of s (first_of 0 (entries_of s))

-- the custom properties of a section, in order
abbrev pub customs_in : List ℕ → List (List ℕ × Value)
customs_in s = customs_of (section_names s) (page_in (entries_of s) s) s (entries_of s)
