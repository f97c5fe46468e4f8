-- The lines of the other workbooks and programs that a workbook refers to, and of the formulas that cite them.
use Rattle.std.specs.Prelude.{ℕ, List, [], ◌∷◌, ◌++◌, codes, drop, map, Option, Some, None, Ok, Err}
use Rattle.std.specs.List.{flat_map}
use Rattle.xls_record.specs.declared.version.Biff.{Biff}
use Rattle.xls_text.specs.declared.encoding.XlsEncoding.{XlsEncoding}
use Rattle.xls_parts.specs.PartRecords.{globals_records, own_records}
use Rattle.xls_other_books.specs.Books.{Book}
use Rattle.xls_other_books.specs.Formulas.{Outside, outside_of}
use Rattle.xls_other_books.specs.Links.{Links, links_of}
use Rattle.xls_other_books.specs.Names.{Name}
use Rattle.xls_other_books.specs.Outside.{Cited}
use Rattle.xls_other_books.specs.Texts.{kind_text, record_text, flaw_text}
use Rattle.xls_other_books.specs.declared.books.Linked.{Linked}
use Rattle.xls_other_books.specs.declared.books.Linked.TheVariants as links
use Rattle.xls_other_books.specs.declared.damage.Damage.{Damage}
use Rattle.xls_open.specs.Globals.{Sheets}
use Rattle.xls_readable.specs.Items.{NamedItem, count, word}
use Rattle.xls_beside.specs.declared.parts.SheetPart.{SheetPart}
use Rattle.xls_beside.specs.Lines.{Line, characters, damaged, line}
use Rattle.xls_beside.specs.Parts.{parts_of, sheet_lines}

-- ---- what is linked

abbrev pub book_members : List ℕ → Book → List NamedItem
book_members kind b = (codes "kind", word kind) ∷ (codes "path", characters b.path) ∷ (codes "topic", characters b.topic) ∷ []

-- a workbook or a program has a line, what has no kind has none
abbrev pub book_if : Option (List ℕ) → Book → List Line
book_if None b = []
book_if (Some kind) b = line (codes "book") (book_members kind b) ∷ []

-- a sheet or a name
abbrev pub named : List ℕ → List ℕ → Line
named w name = line w ((codes "name", characters name) ∷ [])

abbrev pub book_sheet : List ℕ → Line
book_sheet name = named (codes "book_sheet") name

-- of added functions their names are those of the functions
abbrev pub name_word : Linked → List ℕ
name_word links.Functions = codes "function"
name_word linked = codes "book_name"

-- a damaged record of the globals stands in no cell
abbrev pub damaged_record : Damage → Line
damaged_record d = damaged (record_text d.record_name) d.offset None None (flaw_text d.flaw)

-- a name, or an ExternName that is damaged
abbrev pub book_name : Linked → Name → Line
book_name linked (Ok name) = named (name_word linked) name
book_name linked (Err d) = damaged_record d

abbrev pub damage_if : Option Damage → List Line
damage_if None = []
damage_if (Some d) = damaged_record d ∷ []

-- its own line, its sheets, its names, and what is wrong with its record
abbrev pub book_lines : Book → List Line
book_lines b =
    book_if (kind_text b.linked) b ++ (map book_sheet b.sheets ++ (map (book_name b.linked) b.names ++ damage_if b.damage))

-- ---- what cites it

abbrev pub cited_members : ℕ → ℕ → Cited → List NamedItem
cited_members row column c =
    (codes "row", count row) ∷ (codes "column", count column) ∷ (codes "book", characters c.book)
    ∷ (codes "sheet", characters c.sheet) ∷ (codes "name", characters c.name) ∷ []

-- something that the formula of a cell cites
abbrev pub cited_line : ℕ → ℕ → Cited → Line
cited_line row column c = line (codes "outside") (cited_members row column c)

-- all that the formula of a record cites, if it has one
abbrev pub outside_lines : Option Outside → List Line
outside_lines None = []
outside_lines (Some o) = map (cited_line o.row o.column) o.cited

-- what the formulas in a part of the stream cite
abbrev pub outside_in : Links → List ℕ → SheetPart → List Line
outside_in linked stream part =
    flat_map (λ r. outside_lines (outside_of linked r)) (own_records part.offset (drop part.offset stream))

-- ---- all

-- what is linked, and then the sheets
abbrev pub linked_lines : Links → Biff → Sheets → List ℕ → List Line
linked_lines linked version sheets stream =
    flat_map book_lines linked.books ++ sheet_lines (outside_in linked stream) (parts_of version sheets stream) sheets

-- by the version and the page in force and the sheets that the globals list with their offsets
abbrev pub books_lines : Biff → XlsEncoding → Sheets → List ℕ → List Line
books_lines version page sheets stream = linked_lines (links_of version page (globals_records stream)) version sheets stream
