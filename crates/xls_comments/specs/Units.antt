-- Texts as 16-bit units. A flags byte stands before them: bit 01 says that each has two bytes.
use Rattle.std.specs.Prelude.{ℕ, ◌+◌, List, [], take, drop, length, slice_index, nat_lt, Bool, if◌then◌else◌}
use Rattle.std.specs.List.{flat_map}
use Rattle.xls_text.specs.Pages.{units_of}
use Rattle.xls_comments.specs.Fields.{u16_at, has_bit}

-- the units of some bytes; of two bytes each or of one. A last odd byte of wide ones is in none.
abbrev pub units_in : Bool → List ℕ → List ℕ
units_in is_wide bytes = if is_wide then units_of bytes else bytes

-- XLUnicodeRichExtendedString (2.5.293): behind the flags byte stand two bytes more where it has bit 08 (the number of
-- formatting runs), and four more where it has bit 04 (a size)
abbrev pub bytes_between : ℕ → ℕ
bytes_between flags = (if has_bit 0x08 flags then 2 else 0) + (if has_bit 0x04 flags then 4 else 0)

-- the units of a string: the count of units, the flags byte, and as many of the units as are there
abbrev pub string_units : List ℕ → List ℕ
string_units bytes =
    if nat_lt (length bytes) 3 then []
    else take (u16_at 0 bytes) (units_in (has_bit 0x01 (slice_index bytes 2)) (drop (3 + bytes_between (slice_index bytes 2)) bytes))

-- the units of a piece of a text: a flags byte, and the units
abbrev pub piece_units : List ℕ → List ℕ
piece_units body = units_in (has_bit 0x01 (slice_index body 0)) (drop 1 body)

-- those of all pieces, one behind the other
abbrev pub text_units : List (List ℕ) → List ℕ
text_units pieces = flat_map piece_units pieces
