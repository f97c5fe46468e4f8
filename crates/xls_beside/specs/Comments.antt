-- The lines of the comments of a workbook's sheets.
use Rattle.std.specs.Prelude.{ℕ, List, [], ◌∷◌, codes, drop, map}
use Rattle.xls_record.specs.declared.version.Biff.{Biff}
use Rattle.xls_text.specs.declared.encoding.XlsEncoding.{XlsEncoding}
use Rattle.xls_parts.specs.PartRecords.{own_records}
use Rattle.xls_comments.specs.Comments.{comment_items}
use Rattle.xls_comments.specs.Items.{CommentContent, Item}
use Rattle.xls_comments.specs.Items as items
use Rattle.xls_comments.specs.Texts.{visibility_text, record_text, flaw_text}
use Rattle.xls_open.specs.Globals.{Sheets}
use Rattle.xls_readable.specs.Items.{NamedItem, count, word}
use Rattle.xls_beside.specs.declared.parts.SheetPart.{SheetPart}
use Rattle.xls_beside.specs.Lines.{Line, characters, damaged, line}
use Rattle.xls_beside.specs.Parts.{parts_of, sheet_lines}

abbrev pub comment_members : CommentContent → List NamedItem
comment_members c =
    (codes "row", count c.row) ∷ (codes "column", count c.column) ∷ (codes "visibility", word (visibility_text c.visibility))
    ∷ (codes "author", characters c.author) ∷ (codes "text", characters c.text) ∷ []

-- a comment, or a Note that is damaged
abbrev pub comment : Item → Line
comment (items.comment c) = line (codes "comment") (comment_members c)
comment (items.damaged d) = damaged (record_text d.record_name) d.offset d.row d.column (flaw_text d.flaw)

-- those in a part of the stream
abbrev pub comments_in : Biff → XlsEncoding → List ℕ → SheetPart → List Line
comments_in version page stream part = map comment (comment_items version page (own_records part.offset (drop part.offset stream)))

-- by the version and the page in force and the sheets that the globals list with their offsets
abbrev pub comments_lines : Biff → XlsEncoding → Sheets → List ℕ → List Line
comments_lines version page sheets stream =
    sheet_lines (comments_in version page stream) (parts_of version sheets stream) sheets
