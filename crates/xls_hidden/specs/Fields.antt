-- The fields of the records that say what is hidden. Numbers of two bytes; a bit is told by its mask.
use Rattle.std.specs.Prelude.{ℕ, ◌/◌, ◌%◌, List, take, drop, length, min, Bool, nat_lt, ◌==◌, if◌then◌else◌, Option, Some, None}
use Rattle.xls_bytes.specs.Numbers.{le}
use Rattle.xls_hidden.specs.declared.fields.Mark.{Mark}
use Rattle.xls_hidden.specs.declared.fields.Mark.TheVariants as marks
use Rattle.xls_hidden.specs.declared.fields.RowMark.{RowMark}
use Rattle.xls_hidden.specs.declared.fields.ColumnMarks.{ColumnMarks}
use Rattle.xls_hidden.specs.declared.fields.Window.{Window}
use Rattle.xls_hidden.specs.declared.fields.Pane.{Pane}

-- the 16-bit number at a place
abbrev pub u16_at : ℕ → List ℕ → ℕ
u16_at place body = le (take 2 (drop place body))

-- whether the bit of this mask, a power of two, is set
abbrev pub has_bit : ℕ → ℕ → Bool
has_bit mask bits = bits / mask % 2 == 1

-- a row or a column that isn't hidden is flat where its height or width is 0
abbrev pub mark_of : Bool → ℕ → Mark
mark_of is_hidden size = if is_hidden then marks.Hidden else if size == 0 then marks.Flat else marks.Shown

-- Row (2.4.221), 16 bytes: rw at 0, miyRw, the height, at 6, and among the bits at 12 fDyZero, 0020
abbrev pub row_at : List ℕ → Option RowMark
row_at body =
    if nat_lt (length body) 16 then None
    else Some (record {
      row = u16_at 0 body;
      mark = mark_of (has_bit 0x0020 (u16_at 12 body)) (u16_at 6 body);
    })

-- ColInfo (2.4.53), 10 bytes or more: colFirst at 0, colLast at 2, where more than 255 is 255, coldx, the width, at 4,
-- and among the bits at 8 fHidden, 0001
abbrev pub columns_at : List ℕ → Option ColumnMarks
columns_at body =
    if nat_lt (length body) 10 then None
    else Some (record {
      first = u16_at 0 body;
      last = min (u16_at 2 body) 255;
      mark = mark_of (has_bit 0x0001 (u16_at 8 body)) (u16_at 4 body);
    })

-- DefaultRowHeight (2.4.87), 4 bytes: among the bits at 0 fDyZero, 0002: rows without a Row record are hidden
abbrev pub default_hides_at : List ℕ → Option Bool
default_hides_at body = if nat_lt (length body) 4 then None else Some (has_bit 0x0002 (u16_at 0 body))

-- Window2 (2.4.346), here 2 bytes or more: among the bits at 0 fFrozenRt, 0008, and fDspZerosRt, 0010
abbrev pub window_at : List ℕ → Option Window
window_at body =
    if nat_lt (length body) 2 then None
    else Some (record {
      is_frozen = has_bit 0x0008 (u16_at 0 body);
      shows_zeros = has_bit 0x0010 (u16_at 0 body);
    })

-- Pane (2.4.189), here 4 bytes or more: x, the columns on the left, at 0, and y, the rows above, at 2
abbrev pub pane_at : List ℕ → Option Pane
pane_at body =
    if nat_lt (length body) 4 then None
    else Some (record {
      rows = u16_at 2 body;
      columns = u16_at 0 body;
    })
