-- The lines of the links of a workbook's sheets.
use Rattle.std.specs.Prelude.{ℕ, List, [], ◌∷◌, codes, drop, map}
use Rattle.xls_record.specs.declared.version.Biff.{Biff}
use Rattle.xls_text.specs.declared.encoding.XlsEncoding.{XlsEncoding}
use Rattle.xls_parts.specs.PartRecords.{own_records}
use Rattle.xls_links.specs.Links.{link_items}
use Rattle.xls_links.specs.Items.{LinkContent, Item}
use Rattle.xls_links.specs.Items as items
use Rattle.xls_links.specs.Texts.{kind_text, record_text, flaw_text}
use Rattle.xls_open.specs.Globals.{Sheets}
use Rattle.xls_readable.specs.Items.{NamedItem, count, word}
use Rattle.xls_beside.specs.declared.parts.SheetPart.{SheetPart}
use Rattle.xls_beside.specs.Lines.{Line, characters, damaged, line}
use Rattle.xls_beside.specs.Parts.{parts_of, sheet_lines}

abbrev pub link_members : LinkContent → List NamedItem
link_members l =
    (codes "first_row", count l.first_row) ∷ (codes "first_column", count l.first_column)
    ∷ (codes "last_row", count l.last_row) ∷ (codes "last_column", count l.last_column) ∷ (codes "kind", word (kind_text l.kind))
    ∷ (codes "target", characters l.target) ∷ (codes "place", characters l.place) ∷ (codes "shown", characters l.shown)
    ∷ (codes "tip", characters l.tip) ∷ []

-- a link, or an HLink that is damaged
abbrev pub link : Item → Line
link (items.link l) = line (codes "link") (link_members l)
link (items.damaged d) = damaged (record_text d.record_name) d.offset d.row d.column (flaw_text d.flaw)

-- those in a part of the stream
abbrev pub links_in : Biff → XlsEncoding → List ℕ → SheetPart → List Line
links_in version page stream part = map link (link_items version page (own_records part.offset (drop part.offset stream)))

-- by the version and the page in force and the sheets that the globals list with their offsets
abbrev pub links_lines : Biff → XlsEncoding → Sheets → List ℕ → List Line
links_lines version page sheets stream = sheet_lines (links_in version page stream) (parts_of version sheets stream) sheets
