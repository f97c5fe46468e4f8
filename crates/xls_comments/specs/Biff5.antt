-- The comments of the versions before BIFF8. Note: row at 0, column at 2, the count of the bytes of the whole text at
-- 4, and the first of them at 6. The rest comes in Notes directly behind, whose row is FFFF and which have 6 bytes or
-- more: how many bytes each has at 4, and those at 6. There is no author. These are this project's rules.
use Rattle.std.specs.Prelude.{ℕ, ◌-◌, List, [], ◌∷◌, ◌++◌, take, drop, length, Bool, ◌&&◌, nat_lt, nat_le, ◌==◌, if◌then◌else◌}
use Rattle.xls_text.specs.Pages.{decoded}
use Rattle.xls_text.specs.declared.encoding.XlsEncoding.{XlsEncoding}
use Rattle.xls_parts.specs.PartRecords.{Placed}
use Rattle.xls_comments.specs.declared.damage.Flaw.TheVariants as flaws
use Rattle.xls_comments.specs.declared.damage.DamagedRecord.TheVariants.{Note}
use Rattle.xls_comments.specs.declared.items.Visibility.TheVariants.{Hidden}
use Rattle.xls_comments.specs.declared.types.TheConstants.{NOTE}
use Rattle.xls_comments.specs.Fields.{u16_at, end_of}
use Rattle.xls_comments.specs.Items.{Item, comment, damaged}
use Rattle.xls_comments.specs.Biff8.{damaged_note}
use Rattle.std.specs.Prelude.{None}

-- as many bytes as a Note says that it has, and as are there
abbrev pub note_bytes : List ℕ → List ℕ
note_bytes body = take (u16_at 4 body) (drop 6 body)

-- its row says that it goes on with a text
abbrev pub is_rest : List ℕ → Bool
is_rest body = u16_at 0 body == 0xFFFF

-- ---- the text: the place where its next bytes have to stand, and how many are missing

pub record Rest : Type 0 where
  pub place : ℕ
  pub missing : ℕ

-- nothing; what the first Note of a text lacks; and whether a record has more of it
abbrev pub rest_none : Rest
rest_none = record { place = 0; missing = 0 }

abbrev pub rest_behind : Placed → Rest
rest_behind r = record { place = end_of r; missing = u16_at 4 r.body - length (note_bytes r.body) }

abbrev pub goes_on : Rest → Placed → Bool
goes_on rest r = nat_lt 0 rest.missing && (r.typ == NOTE && (r.offset == rest.place && (nat_le 6 (length r.body) && is_rest r.body)))

-- what is missing behind that record
abbrev pub rest_after : Rest → Placed → Rest
rest_after rest r = record { place = end_of r; missing = rest.missing - length (note_bytes r.body) }

-- the bytes that the records behind have of it
abbrev pub bytes_behind : Rest → List Placed → List ℕ
bytes_behind rest [] = []
bytes_behind rest (r ∷ rs) = if goes_on rest r then take rest.missing (note_bytes r.body) ++ bytes_behind (rest_after rest r) rs else []

-- ---- Notes

-- the comment of a Note, with the bytes of its whole text
abbrev pub comment_5 : XlsEncoding → Placed → List ℕ → Item
comment_5 page r bytes = comment (record {
  row = u16_at 0 r.body;
  column = u16_at 2 r.body;
  visibility = Hidden;
  author = [];
  text = decoded page bytes;
})

-- the text has all its bytes
abbrev pub if_joined : XlsEncoding → Placed → List ℕ → Item
if_joined page r bytes =
    if nat_lt (length bytes) (u16_at 4 r.body) then damaged_note r (flaws.BytesEnd (length bytes) (u16_at 4 r.body))
    else comment_5 page r bytes

-- the cell of a Note that continues no comment isn't told
abbrev pub lone_rest : Placed → Item
lone_rest r = damaged (record {
  record_name = Note;
  offset = r.offset;
  row = None;
  column = None;
  flaw = flaws.ContinuesNothing;
})

-- a Note that goes on with no text, and the records behind it
abbrev pub note_5 : XlsEncoding → Placed → List Placed → Item
note_5 page r rs =
    if nat_lt (length r.body) 6 then damaged_note r (flaws.Short 6 (length r.body))
    else if is_rest r.body then lone_rest r
    else if_joined page r (note_bytes r.body ++ bytes_behind (rest_behind r) rs)

-- what is missing of a text behind it
abbrev pub rest_of : Placed → Rest
rest_of r = if nat_lt (length r.body) 6 then rest_none else if is_rest r.body then rest_none else rest_behind r

-- the Notes among some records, where so much of a text is missing
abbrev pub notes_5 : XlsEncoding → Rest → List Placed → List Item
notes_5 page rest [] = []
notes_5 page rest (r ∷ rs) =
    if goes_on rest r then notes_5 page (rest_after rest r) rs
    else if r.typ == NOTE then note_5 page r rs ∷ notes_5 page (rest_of r) rs
    else notes_5 page rest_none rs

abbrev pub items_5 : XlsEncoding → List Placed → List Item
items_5 page records = notes_5 page rest_none records
