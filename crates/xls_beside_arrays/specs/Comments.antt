-- The comments of a sheet, as items.
use Rattle.std.specs.Prelude.{ℕ, List, drop, encode_utf8_all}
use Rattle.xls_comments.specs.Comments.{comment_items}
use Rattle.xls_comments.specs.Items.{Item}
use Rattle.xls_comments.specs.Items as items
use Rattle.xls_comments.specs.Texts.{flaw_text}
use Rattle.xls_comments.specs.declared.damage.Damage.{Damage}
use Rattle.xls_comments.specs.declared.damage.DamagedRecord.{DamagedRecord}
use Rattle.xls_comments.specs.declared.damage.DamagedRecord.TheVariants as names
use Rattle.xls_comments.specs.declared.items.Visibility.{Visibility}
use Rattle.xls_comments.specs.declared.items.Visibility.TheVariants as visibilities
use Rattle.xls_comments.specs.declared.types.TheConstants as types
use Rattle.xls_open.specs.Globals.{State}
use Rattle.xls_parts.specs.PartRecords.{own_records}
use Rattle.xls_beside.specs.declared.parts.SheetPart.{SheetPart}
use Rattle.xls_arrays.specs.declared.faults.Fault.{Fault}
use Rattle.xls_arrays.specs.declared.items.Span.{Span}
use Rattle.xls_arrays.specs.declared.options.Options.{Options}
use Rattle.xls_beside_arrays.specs.Answers.{Fills}
use Rattle.xls_beside_arrays.specs.Arrays.{Arrays, with_two}
use Rattle.xls_beside_arrays.specs.Damages.{with_damage}
use Rattle.xls_beside_arrays.specs.Opened.{IsOfSheet, RefusesSheet}
use Rattle.xls_beside_arrays.specs.declared.damage.Damaged.{Damaged}
use Rattle.xls_beside_arrays.specs.declared.items.CommentItem.{CommentItem}
use Rattle.xls_beside_arrays.specs.declared.items.Counts.{Counts}

abbrev pub visible_number : Visibility → ℕ
visible_number visibilities.Visible = 1
visible_number visibilities.Hidden = 0

abbrev pub comment_item : ℕ → ℕ → Visibility → Span → Span → CommentItem
comment_item row column visibility author words =
    record {
      row = row;
      column = column;
      author = author;
      words = words;
      visible = visible_number visibility;
      reserved = 0;
    }

abbrev pub record_number : DamagedRecord → ℕ
record_number names.Note = types.NOTE

abbrev pub damaged_of : Damage → Damaged
damaged_of d = record { record_type = record_number d.record_name; offset = d.offset; row = d.row; column = d.column }

-- author and text of a comment and its item, or a Note that is damaged
abbrev pub with_comment : Arrays CommentItem → Item → Arrays CommentItem
with_comment a (items.comment c) =
    with_two (comment_item c.row c.column c.visibility) (encode_utf8_all c.author) (encode_utf8_all c.text) a
with_comment a (items.damaged d) = with_damage a (damaged_of d) (flaw_text d.flaw)

-- those in a part of the stream
abbrev pub comments_in : State → List ℕ → SheetPart → List Item
comments_in globals stream part = comment_items globals.version globals.page (own_records part.offset (drop part.offset stream))

abbrev pub AreComments : Options → List ℕ → Arrays CommentItem → Type 0
AreComments = IsOfSheet with_comment comments_in

abbrev pub FillsComments : Options → List ℕ → Arrays CommentItem → Counts → Fault → ℕ → Type 0
FillsComments options stream = Fills (AreComments options stream) (RefusesSheet options stream)
