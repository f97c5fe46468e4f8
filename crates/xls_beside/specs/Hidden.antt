-- The lines of what is hidden in a workbook's sheets.
use Rattle.std.specs.Prelude.{ℕ, List, [], ◌∷◌, codes, drop, map}
use Rattle.xls_record.specs.declared.version.Biff.{Biff}
use Rattle.xls_hidden.specs.Hidden.{hidden_items, said_in}
use Rattle.xls_hidden.specs.Texts.{why_text, record_text, flaw_text}
use Rattle.xls_hidden.specs.declared.fields.Pane.{Pane}
use Rattle.xls_hidden.specs.declared.lines.Run.{Run}
use Rattle.xls_hidden.specs.declared.sheet.HiddenItem.{HiddenItem}
use Rattle.xls_hidden.specs.declared.sheet.HiddenItem.TheVariants.{Rows, Columns, Frozen, Zeros, Damaged}
use Rattle.xls_open.specs.Globals.{Sheets}
use Rattle.xls_readable.specs.Items.{NamedItem, count, word}
use Rattle.xls_beside.specs.declared.parts.SheetPart.{SheetPart}
use Rattle.xls_beside.specs.Lines.{Line, damaged, line}
use Rattle.xls_beside.specs.Parts.{parts_of, sheet_lines}

-- first and last row or column of a run, and why it can't be seen
abbrev pub run_members : Run → List NamedItem
run_members r = (codes "first", count r.first) ∷ (codes "last", count r.last) ∷ (codes "why", word (why_text r.why)) ∷ []

-- so many rows above, so many columns on the left
abbrev pub frozen_members : Pane → List NamedItem
frozen_members p = (codes "rows", count p.rows) ∷ (codes "columns", count p.columns) ∷ []

-- something hidden
abbrev pub hidden : HiddenItem → Line
hidden (Rows r) = line (codes "rows") (run_members r)
hidden (Columns r) = line (codes "columns") (run_members r)
hidden (Frozen p) = line (codes "frozen") (frozen_members p)
hidden Zeros = line (codes "zeros") []
hidden (Damaged d) = damaged (record_text d.record_name) d.offset d.row d.column (flaw_text d.flaw)

-- what is hidden in a part of the stream
abbrev pub hidden_in : Biff → List ℕ → SheetPart → List Line
hidden_in version stream part = map hidden (hidden_items version part.area (said_in version part.offset (drop part.offset stream)))

-- by the version in force and the sheets that the globals list with their offsets
abbrev pub hidden_lines : Biff → Sheets → List ℕ → List Line
hidden_lines version sheets stream = sheet_lines (hidden_in version stream) (parts_of version sheets stream) sheets
