-- The comments of BIFF8. Note ([MS-XLS]): row at 0, col at 2, bits at 4, the identifier of an object at 6, and the
-- author, a string, at 8. TxO: the count of the units of the text (cchText) at 10.
use Rattle.std.specs.Prelude.{ℕ, List, [], ◌∷◌, take, drop, length, nat_lt, ◌==◌, if◌then◌else◌}
use Rattle.std.specs.Char.Utf16.{utf16_lossy_chars}
use Rattle.xls_parts.specs.PartRecords.{Placed}
use Rattle.xls_comments.specs.declared.damage.DamagedRecord.TheVariants.{Note}
use Rattle.xls_comments.specs.declared.damage.Flaw.{Flaw}
use Rattle.xls_comments.specs.declared.damage.Flaw.TheVariants as flaws
use Rattle.xls_comments.specs.declared.types.TheConstants.{NOTE}
use Rattle.xls_comments.specs.Fields.{u16_at, cell_number, visibility_of}
use Rattle.xls_comments.specs.Units.{string_units, text_units}
use Rattle.xls_comments.specs.Items.{Item, comment, damaged}
use Rattle.xls_comments.specs.Objects.{Found, NoObject, NoText, HasText, object_in}

-- a Note that is damaged, with its cell where that is there
abbrev pub damaged_note : Placed → Flaw → Item
damaged_note r flaw = damaged (record {
  record_name = Note;
  offset = r.offset;
  row = cell_number 0 r.body;
  column = cell_number 2 r.body;
  flaw = flaw;
})

-- the comment of a Note that is whole, with the units of its text
abbrev pub comment_8 : Placed → List ℕ → Item
comment_8 r units = comment (record {
  row = u16_at 0 r.body;
  column = u16_at 2 r.body;
  visibility = visibility_of (u16_at 4 r.body);
  author = utf16_lossy_chars (string_units (drop 8 r.body));
  text = utf16_lossy_chars units;
})

-- the text has all its units
abbrev pub if_whole : Placed → ℕ → List ℕ → Item
if_whole r count units = if nat_lt (length units) count then damaged_note r (flaws.UnitsEnd (length units) count) else comment_8 r units

-- by the body of the TxO, and the pieces
abbrev pub with_text : Placed → List ℕ → List (List ℕ) → Item
with_text r text_body text_pieces =
    if nat_lt (length text_body) 12 then damaged_note r (flaws.ShortText (length text_body))
    else if_whole r (u16_at 10 text_body) (take (u16_at 10 text_body) (text_units text_pieces))

-- by what is known of the object
abbrev pub with_object : Placed → Found → Item
with_object r NoObject = damaged_note r (flaws.NoObject (u16_at 6 r.body))
with_object r NoText = damaged_note r (flaws.NoText (u16_at 6 r.body))
with_object r (HasText text_body text_pieces) = with_text r text_body text_pieces

-- by what is known of all objects
abbrev pub note_8 : (ℕ → Found) → Placed → Item
note_8 found r =
    if nat_lt (length r.body) 8 then damaged_note r (flaws.Short 8 (length r.body))
    else with_object r (found (u16_at 6 r.body))

-- the Notes among some records, where so much is known of the objects
abbrev pub notes_8 : (ℕ → Found) → List Placed → List Item
notes_8 found [] = []
notes_8 found (r ∷ rs) = if r.typ == NOTE then note_8 found r ∷ notes_8 found rs else notes_8 found rs

-- the Notes of a part: objects may stand behind them
abbrev pub items_8 : List Placed → List Item
items_8 records = notes_8 (object_in records) records
