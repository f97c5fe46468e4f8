-- The fields of the records that make a comment. Numbers of two bytes; a bit is told by its mask.
use Rattle.std.specs.Prelude.{ℕ, ◌+◌, ◌/◌, ◌%◌, List, take, drop, length, Bool, nat_lt, ◌==◌, if◌then◌else◌, Option, Some, None}
use Rattle.xls_bytes.specs.Numbers.{le}
use Rattle.xls_parts.specs.PartRecords.{Placed}
use Rattle.xls_comments.specs.declared.items.Visibility.{Visibility}
use Rattle.xls_comments.specs.declared.items.Visibility.TheVariants.{Visible, Hidden}

-- the 16-bit number at a place
abbrev pub u16_at : ℕ → List ℕ → ℕ
u16_at place body = le (take 2 (drop place body))

-- whether the bit of this mask, a power of two, is set
abbrev pub has_bit : ℕ → ℕ → Bool
has_bit mask bits = bits / mask % 2 == 1

-- a number of the cell of a Note, row at 0 and col at 2, where all four bytes are there
abbrev pub cell_number : ℕ → List ℕ → Option ℕ
cell_number place body = if nat_lt (length body) 4 then None else Some (u16_at place body)

-- NoteSh: among the bits at 4 fShow, 0002: the comment is always shown
abbrev pub visibility_of : ℕ → Visibility
visibility_of bits = if has_bit 0x0002 bits then Visible else Hidden

-- Obj begins with FtCmo: ft, 0015, at 0, and the object's identifier (id) at 6; none where it
-- has fewer than 8 bytes or begins otherwise
abbrev pub identifier_at : List ℕ → Option ℕ
identifier_at body =
    if nat_lt (length body) 8 then None
    else if u16_at 0 body == 0x0015 then Some (u16_at 6 body)
    else None

-- the place directly behind a record
abbrev pub end_of : Placed → ℕ
end_of r = r.offset + (4 + length r.body)
