-- Known values, so that a wrong rule in the specs does not check.
use Rattle.std.proofs.Common.{◌≡◌, ℕ, pos, List, [], ◌∷◌, ◌++◌, map, replicate, codes, true, false, Option, Some, None, Ok, Err, refl}
use Rattle.xls_dates.specs.declared.numbers.Number.TheVariants.{Hundredths}
use Rattle.std.specs.Fmt.{digits}
use Rattle.xls_data.specs.Sheets.{SheetContent}
use Rattle.xls_data.specs.declared.sheets.SheetType.TheVariants.{WorkSheet}
use Rattle.xls_data.specs.declared.sheets.SheetVisible.TheVariants.{Visible}
use Rattle.xls_record.specs.declared.version.Biff.TheVariants.{Biff8}
use Rattle.xls_parts.specs.PartRecords.{Placed}
use Rattle.xls_parts.specs.PartRecords as records
use Rattle.xls_hidden.specs.declared.damage.DamagedRecord.TheVariants as names
use Rattle.xls_hidden.specs.declared.damage.Damage.{Damage}
use Rattle.xls_hidden.specs.declared.damage.Flaw.TheVariants.{Short, PastLastRow}
use Rattle.xls_hidden.specs.declared.fields.Pane.{Pane}
use Rattle.xls_hidden.specs.declared.lines.Run.{Run}
use Rattle.xls_hidden.specs.declared.lines.Why.{Why}
use Rattle.xls_hidden.specs.declared.lines.Why.TheVariants as whys
use Rattle.xls_meaning.specs.Reading.{last_named}
use Rattle.xls_hidden.specs.declared.sheet.HiddenItem.{HiddenItem}
use Rattle.xls_hidden.specs.declared.sheet.HiddenItem.TheVariants.{Rows, Columns, Frozen, Zeros, Damaged}
use Rattle.xls_comments.specs.Items as comments
use Rattle.xls_comments.specs.declared.damage.DamagedRecord.TheVariants as notes
use Rattle.xls_comments.specs.declared.damage.Flaw.TheVariants.{NoObject}
use Rattle.xls_comments.specs.declared.items.Visibility.TheVariants as visibilities
use Rattle.xls_links.specs.Items as links
use Rattle.xls_links.specs.declared.damage.DamagedRecord.TheVariants as h_links
use Rattle.xls_links.specs.declared.damage.Flaw.TheVariants.{EndsIn}
use Rattle.xls_links.specs.declared.damage.Part.TheVariants as parts_of_link
use Rattle.xls_links.specs.declared.items.LinkKind.TheVariants as kinds
use Rattle.xls_other_books.specs.Books.{Book}
use Rattle.xls_other_books.specs.Links.{Links}
use Rattle.xls_other_books.specs.declared.books.Linked.{Linked}
use Rattle.xls_other_books.specs.declared.books.Linked.TheVariants as linked
use Rattle.xls_other_books.specs.declared.damage.Damage.{Damage as BookDamage}
use Rattle.xls_other_books.specs.declared.damage.DamagedRecord.{DamagedRecord as BookRecord}
use Rattle.xls_other_books.specs.declared.damage.DamagedRecord.TheVariants as book_records
use Rattle.xls_other_books.specs.declared.damage.Flaw.{Flaw as BookFlaw}
use Rattle.xls_other_books.specs.declared.damage.Flaw.TheVariants as book_flaws
use Rattle.xls_styles.specs.Styles.{CellStyle, FontStyle, Styles, no_border}
use Rattle.xls_styles.specs.declared.borders.Border.{Border}
use Rattle.xls_styles.specs.declared.colors.Color.TheVariants as colors
use Rattle.xls_styles.specs.declared.damage.Damage.{Damage as StyleDamage}
use Rattle.xls_styles.specs.declared.damage.DamagedRecord.TheVariants as style_records
use Rattle.xls_styles.specs.declared.damage.Flaw.TheVariants as style_flaws
use Rattle.xls_styles.specs.declared.fonts.Script.TheVariants as scripts
use Rattle.xls_styles.specs.declared.fonts.Underline.TheVariants as underlines
use Rattle.xls_style_cells.specs.Cells.{no_runs}
use Rattle.xls_readable.specs.Items.{FieldItem, NamedItem, count, number, text, unknown, word}
use Rattle.xls_beside.specs.Books.{book_lines, linked_lines, outside_lines}
use Rattle.xls_beside.specs.Comments.{comment}
use Rattle.xls_beside.specs.Damaged.{at_most_counted, damaged_among}
use Rattle.xls_beside.specs.Hidden.{frozen_members, hidden}
use Rattle.xls_beside.specs.Hidden as hidden_things
use Rattle.xls_beside.specs.Lines.{Line, sheet}
use Rattle.xls_beside.specs.Links.{link}
use Rattle.xls_beside.specs.Parts.{lines_of_sheet, parts_from, sheet_lines}
use Rattle.xls_beside.specs.Styles.{cell_lines, damaged_style, run_members, style_members}
use Rattle.xls_beside.specs.declared.parts.SheetPart.{SheetPart}

-- ---- lines

abbrev run : Why → Run
run why = record { first = 2; last = 65_535; why = why }

abbrev members : List ℕ → List NamedItem
members why = (codes "first", count 2) ∷ (codes "last", count 65_535) ∷ (codes "why", word why) ∷ []

pub runs : map (λ (why : Why). hidden_things.run_members (run why)) (whys.Hidden ∷ whys.Filtered ∷ whys.Flat ∷ [])
    ≡ map members (codes "hidden" ∷ codes "filtered" ∷ codes "flat" ∷ [])
runs = refl

abbrev pane : Pane
pane = record { rows = 3; columns = 2 }

pub frozen : frozen_members pane ≡ (codes "rows", count 3) ∷ (codes "columns", count 2) ∷ []
frozen = refl

abbrev short_row : Damage
short_row = record { record_name = names.Row; offset = 68; row = Some 1; column = None; flaw = Short 16 15 }

abbrev late_row : Damage
late_row = record { record_name = names.Row; offset = 59; row = Some 16_384; column = None; flaw = PastLastRow }

abbrev short_columns : Damage
short_columns = record { record_name = names.ColInfo; offset = 7; row = None; column = Some 3; flaw = Short 10 8 }

-- all damaged records have the same members
abbrev said : List ℕ → ℕ → FieldItem → FieldItem → List ℕ → Line
said name offset row column why = record {
  word = codes "damaged";
  members = (codes "record", word name) ∷ (codes "offset", count offset) ∷ (codes "row", row) ∷ (codes "column", column)
      ∷ (codes "why", word why) ∷ [];
}

pub damaged_rows : map (λ (d : Damage). hidden (Damaged d)) (short_row ∷ late_row ∷ short_columns ∷ [])
    ≡ said (codes "Row") 68 (count 1) unknown (codes "shorter than 16 bytes: 15")
    ∷ said (codes "Row") 59 (count 16_384) unknown (codes "it is past the last row")
    ∷ said (codes "ColInfo") 7 unknown (count 3) (codes "shorter than 10 bytes: 8") ∷ []
unfolding digits
damaged_rows = refl

-- a word for each kind of thing that is hidden
pub hidden_words : map (λ (item : HiddenItem). (hidden item).word)
    (Rows (run whys.Flat) ∷ Columns (run whys.Flat) ∷ Frozen pane ∷ Zeros ∷ Damaged late_row ∷ [])
    ≡ codes "rows" ∷ codes "columns" ∷ codes "frozen" ∷ codes "zeros" ∷ codes "damaged" ∷ []
hidden_words = refl

pub no_members : (hidden Zeros).members ≡ []
no_members = refl

-- texts in UTF-8
pub known_comment : comment (comments.comment (record {
  row = 4;
  column = 2;
  visibility = visibilities.Visible;
  author = 0x42 ∷ 0xF6 ∷ [];
  text = codes "hello";
})) ≡ record {
  word = codes "comment";
  members = (codes "row", count 4) ∷ (codes "column", count 2) ∷ (codes "visibility", word (codes "visible"))
      ∷ (codes "author", text (0x42 ∷ 0xC3 ∷ 0xB6 ∷ [])) ∷ (codes "text", text (codes "hello")) ∷ [];
}
unfolding lib.Utf8.encode
known_comment = refl

pub damaged_note : comment (comments.damaged (record {
  record_name = notes.Note;
  offset = 165;
  row = Some 1;
  column = Some 2;
  flaw = NoObject 8;
}))
    ≡ said (codes "Note") 165 (count 1) (count 2) (codes "no object has its identifier, 8")
unfolding digits
damaged_note = refl

pub known_link : link (links.link (record {
  first_row = 3;
  last_row = 4;
  first_column = 5;
  last_column = 6;
  kind = kinds.Url;
  target = codes "http://a.example";
  place = codes "top";
  shown = codes "here";
  tip = codes "look";
})) ≡ record {
  word = codes "link";
  members = (codes "first_row", count 3) ∷ (codes "first_column", count 5) ∷ (codes "last_row", count 4) ∷ (codes "last_column", count 6)
      ∷ (codes "kind", word (codes "url")) ∷ (codes "target", text (codes "http://a.example")) ∷ (codes "place", text (codes "top"))
      ∷ (codes "shown", text (codes "here")) ∷ (codes "tip", text (codes "look")) ∷ [];
}
unfolding lib.Utf8.encode
known_link = refl

pub damaged_link : link (links.damaged (record {
  record_name = h_links.HLink;
  offset = 68;
  row = None;
  column = None;
  flaw = EndsIn parts_of_link.Head;
}))
    ≡ said (codes "HLink") 68 unknown unknown (codes "it ends in its head")
damaged_link = refl

-- ---- other workbooks

abbrev hurt : BookRecord → ℕ → BookFlaw → BookDamage
hurt name offset flaw = record { record_name = name; offset = offset; flaw = flaw }

abbrev late_names : BookDamage
late_names = hurt book_records.SupBook 80 book_flaws.NamesMissing

abbrev short_name : BookDamage
short_name = hurt book_records.ExternName 120 (book_flaws.Short 7 6)

-- with a sheet, a name, a name that is damaged, and a record that is
abbrev book_of : Linked → Book
book_of kind = record {
  linked = kind;
  path = 0x42 ∷ 0xF6 ∷ [];
  topic = codes "T";
  sheets = codes "S" ∷ [];
  names = Ok (codes "N") ∷ Err short_name ∷ [];
  damage = Some late_names;
}

abbrev under_name : List ℕ → List ℕ → Line
under_name w name = record { word = w; members = (codes "name", text name) ∷ [] }

abbrev book_line : List ℕ → Line
book_line kind = record {
  word = codes "book";
  members = (codes "kind", word kind) ∷ (codes "path", text (0x42 ∷ 0xC3 ∷ 0xB6 ∷ [])) ∷ (codes "topic", text (codes "T")) ∷ [];
}

-- the lines behind that of the book
abbrev behind : List ℕ → List Line
behind w =
    under_name (codes "book_sheet") (codes "S") ∷ under_name w (codes "N")
    ∷ said (codes "ExternName") 120 unknown unknown (codes "shorter than 7 bytes: 6")
    ∷ said (codes "SupBook") 80 unknown unknown (codes "it ends before its names do") ∷ []

pub known_books : map (λ (kind : Linked). book_lines (book_of kind))
    (linked.Nothing ∷ linked.Functions ∷ linked.Book ∷ linked.Program ∷ [])
    ≡ behind (codes "book_name") ∷ behind (codes "function") ∷ (book_line (codes "book") ∷ behind (codes "book_name"))
    ∷ (book_line (codes "dde") ∷ behind (codes "book_name")) ∷ []
unfolding digits lib.Utf8.encode
known_books = refl

abbrev cited_line_of : List ℕ → List ℕ → List ℕ → Line
cited_line_of book sheet name = record {
  word = codes "outside";
  members = (codes "row", count 4) ∷ (codes "column", count 2) ∷ (codes "book", text book) ∷ (codes "sheet", text sheet)
      ∷ (codes "name", text name) ∷ [];
}

pub known_outside : outside_lines None ++ outside_lines (Some (record {
  row = 4;
  column = 2;
  cited = record { book = 0x42 ∷ 0xF6 ∷ []; sheet = codes "S:T"; name = [] }
      ∷ record { book = codes "b"; sheet = []; name = codes "N" } ∷ [];
})) ≡ cited_line_of (0x42 ∷ 0xC3 ∷ 0xB6 ∷ []) (codes "S:T") [] ∷ cited_line_of (codes "b") [] (codes "N") ∷ []
unfolding lib.Utf8.encode
known_outside = refl

-- ---- sheets

abbrev named : ℕ → SheetContent
named letter = record { name = letter ∷ []; typ = WorkSheet; visible = Visible }

abbrev parts : List (SheetContent × SheetPart)
parts = parts_from Biff8 [] 0 ((80, named 65) ∷ (124, named 65) ∷ (212, named 66) ∷ [])

abbrev offset_in : Option SheetPart → Option ℕ
offset_in None = None
offset_in (Some part) = Some part.offset

-- of sheets of one name the part of the last
pub last_parts : map (λ (letter : ℕ). offset_in (last_named parts (letter ∷ []))) (65 ∷ 66 ∷ 67 ∷ [])
    ≡ Some 124 ∷ Some 212 ∷ None ∷ []
last_parts = refl

-- the globals of a stream give the second sheet the rows 2 to 8, in their Lbl
abbrev lbl : Placed
lbl = record {
  offset = 0;
  typ = 0x0018;
  body = 0x20 ∷ 0 ∷ 0 ∷ 1 ∷ 11 ∷ 0 ∷ 0 ∷ 0 ∷ 2 ∷ 0 ∷ 0 ∷ 0 ∷ 0 ∷ 0 ∷ 0 ∷ 0x0D ∷ 0x3B ∷ 0 ∷ 0 ∷ 2 ∷ 0 ∷ 8 ∷ 0 ∷ 0 ∷ 0 ∷ 3 ∷ 0 ∷ [];
}

pub areas : map (λ (p : SheetContent × SheetPart). p.1.area) (parts_from Biff8 (lbl ∷ []) 0 ((80, named 65) ∷ (124, named 66) ∷ []))
    ≡ None ∷ Some (record { first = 2; last = 8 }) ∷ []
areas = refl

-- a sheet whose part isn't there has its line alone
pub alone : lines_of_sheet (λ part. []) [] (named 65) ≡ sheet (named 65) ∷ []
alone = refl

-- each sheet is begun by its line, and sheets of one name have the lines of the last part
abbrev told : ℕ → Line
told n = record { word = codes "at"; members = (codes "offset", count n) ∷ [] }

pub in_order : sheet_lines (λ (part : SheetPart). told part.offset ∷ []) parts ((80, named 65) ∷ (124, named 65) ∷ (212, named 66) ∷ [])
    ≡ sheet (named 65) ∷ told 124 ∷ sheet (named 65) ∷ told 124 ∷ sheet (named 66) ∷ told 212 ∷ []
in_order = refl

-- a stream of one part: BOF, a Formula in row 4 and column 2 whose token, PtgRef3d, cites through the first entry, and EOF
abbrev bof : List ℕ
bof = 9 ∷ 8 ∷ 0 ∷ 0 ∷ []

abbrev formula : List ℕ
formula = 6 ∷ 0 ∷ 29 ∷ 0 ∷ 4 ∷ 0 ∷ 2 ∷ 0 ∷ replicate 16 0 ++ 7 ∷ 0 ∷ 0x5A ∷ 0 ∷ 0 ∷ 0 ∷ 0 ∷ 0 ∷ 0 ∷ []

abbrev eof : List ℕ
eof = 10 ∷ 0 ∷ 0 ∷ 0 ∷ []

abbrev book_with : List (List ℕ) → List ℕ → Book
book_with sheets path = record { linked = linked.Book; path = path; topic = []; sheets = sheets; names = []; damage = None }

abbrev linked_books : Links
linked_books = record {
  version = Biff8;
  books = book_with [] (codes "a") ∷ book_with (codes "S" ∷ []) (codes "b") ∷ [];
  entries = record { book = 1; first = 0; last = 0 } ∷ [];
  refs = [];
}

abbrev line_of_book : List ℕ → Line
line_of_book path = record {
  word = codes "book";
  members = (codes "kind", word (codes "book")) ∷ (codes "path", text path) ∷ (codes "topic", text []) ∷ [];
}

-- first all that is linked, then the sheets, of which the second has no part
pub books_first : linked_lines linked_books Biff8 ((0, named 65) ∷ (100, named 66) ∷ []) (bof ++ formula ++ eof)
    ≡ line_of_book (codes "a") ∷ line_of_book (codes "b") ∷ under_name (codes "book_sheet") (codes "S")
    ∷ sheet (named 65) ∷ cited_line_of (codes "b") (codes "S") [] ∷ sheet (named 66) ∷ []
unfolding lib.Utf8.encode records.own_from records.outer_from records.records_within
books_first = refl

-- ---- how cells look

abbrev font : FontStyle
font = record {
  marks = record { is_bold = true; is_italic = false; is_strike = true; underline = underlines.NoLine; script = scripts.Normal };
  name = 0x42 ∷ 0xF6 ∷ [];
  size = Some (record { twentieths = 205 });
  color = colors.Rgb 0xFF0000;
}

abbrev hair : Border
hair = record { line = record { number = 7 }; color = colors.Auto }

abbrev look : CellStyle
look = record {
  font = font;
  protection = record { is_unlocked = true; is_concealed = false };
  code = codes "0.00";
  fill = record { pattern = 4; color = colors.Rgb 0x00FF00; back = colors.Auto };
  alignment = record { across = 2; down = 0; is_wrapped = true; is_shrunk = false; indent = 0; turn = 90 };
  borders = record { left = hair; right = no_border; top = no_border; bottom = no_border; diagonals = 0; diagonal = no_border };
}

pub known_style : style_members (4, 2) look
    ≡ (codes "row", count 4) ∷ (codes "column", count 2) ∷ (codes "marks", word (codes "bold strike unlocked"))
    ∷ (codes "format", text (codes "0.00")) ∷ (codes "font", text (0x42 ∷ 0xC3 ∷ 0xB6 ∷ []))
    ∷ (codes "size", number (Hundredths (pos 1_025))) ∷ (codes "colour", word (codes "#ff0000"))
    ∷ (codes "fill", word (codes "4 #00ff00 auto")) ∷ (codes "alignment", word (codes "center top wrap turn:90"))
    ∷ (codes "borders", word (codes "left:hair:auto")) ∷ []
unfolding digits lib.Utf8.encode
known_style = refl

pub known_run : run_members (4, 2) (record { unit = 3; font = 5 }) font
    ≡ (codes "row", count 4) ∷ (codes "column", count 2) ∷ (codes "from", count 3) ∷ (codes "marks", word (codes "bold strike"))
    ∷ (codes "font", text (0x42 ∷ 0xC3 ∷ 0xB6 ∷ [])) ∷ (codes "size", number (Hundredths (pos 1_025)))
    ∷ (codes "colour", word (codes "#ff0000")) ∷ []
unfolding digits lib.Utf8.encode
known_run = refl

-- a cell of an XF that isn't there
abbrev bare : Styles
bare = record { version = Biff8; fonts = []; xfs = []; formats = []; palette = []; damages = [] }

pub known_bare : cell_lines Biff8 bare [] ((4, 2), (7, no_runs))
    ≡ record {
      word = codes "style";
      members = (codes "row", count 4) ∷ (codes "column", count 2) ∷ (codes "marks", word []) ∷ (codes "format", text [])
          ∷ (codes "font", text []) ∷ (codes "size", unknown) ∷ (codes "colour", word (codes "auto")) ∷ (codes "fill", word [])
          ∷ (codes "alignment", word []) ∷ (codes "borders", word []) ∷ [];
    } ∷ []
known_bare = refl

abbrev short_font : StyleDamage
short_font = record { record_name = style_records.Font; offset = 68; flaw = style_flaws.Short 15 14 }

abbrev short_xf : StyleDamage
short_xf = record { record_name = style_records.Xf; offset = 90; flaw = style_flaws.Short 20 16 }

pub damaged_styles : map damaged_style (short_font ∷ short_xf ∷ [])
    ≡ said (codes "Font") 68 unknown unknown (codes "shorter than 15 bytes: 14")
    ∷ said (codes "XF") 90 unknown unknown (codes "shorter than 20 bytes: 16") ∷ []
unfolding digits
damaged_styles = refl

-- ---- how many things are damaged

abbrev among : Line → ℕ
among l = damaged_among (l ∷ [])

-- by the whole word
pub damaged_words : map (λ (w : List ℕ). among (record { word = w; members = [] }))
    (codes "sheet" ∷ codes "style" ∷ codes "run" ∷ codes "outside" ∷ codes "damage" ∷ codes "damaged" ∷ codes "damaged " ∷ [] ∷ [])
    ≡ 0 ∷ 0 ∷ 0 ∷ 0 ∷ 0 ∷ 1 ∷ 0 ∷ 0 ∷ []
damaged_words = refl

pub damaged_hidden : map (λ (item : HiddenItem). among (hidden item))
    (Rows (run whys.Flat) ∷ Columns (run whys.Flat) ∷ Frozen pane ∷ Zeros ∷ Damaged late_row ∷ []) ≡ 0 ∷ 0 ∷ 0 ∷ 0 ∷ 1 ∷ []
damaged_hidden = refl

pub damaged_comments : map (λ (item : comments.Item). among (comment item)) (
    comments.comment (record { row = 4; column = 2; visibility = visibilities.Visible; author = []; text = codes "damaged" })
    ∷ comments.damaged (record { record_name = notes.Note; offset = 165; row = Some 1; column = Some 2; flaw = NoObject 8 }) ∷ []
    ) ≡ 0 ∷ 1 ∷ []
damaged_comments = refl

pub damaged_links : map (λ (item : links.Item). among (link item)) (
    links.link (record {
      first_row = 3;
      last_row = 4;
      first_column = 5;
      last_column = 6;
      kind = kinds.Place;
      target = [];
      place = codes "damaged";
      shown = [];
      tip = [];
    })
    ∷ links.damaged (record { record_name = h_links.HLink; offset = 68; row = None; column = None; flaw = EndsIn parts_of_link.Head }) ∷ []
    ) ≡ 0 ∷ 1 ∷ []
damaged_links = refl

-- a name and the record of a book, each whole and each damaged, whatever is linked
abbrev books_of : Linked → List Book
books_of kind =
    record { linked = kind; path = []; topic = []; sheets = codes "S" ∷ []; names = Ok (codes "N") ∷ []; damage = None }
    ∷ record { linked = kind; path = []; topic = []; sheets = []; names = Err short_name ∷ Ok (codes "N") ∷ []; damage = None }
    ∷ record { linked = kind; path = []; topic = []; sheets = []; names = []; damage = Some late_names } ∷ book_of kind ∷ []

pub damaged_books : map (λ (kind : Linked). map (λ (b : Book). damaged_among (book_lines b)) (books_of kind))
    (linked.Nothing ∷ linked.Functions ∷ linked.Book ∷ linked.Program ∷ [])
    ≡ (0 ∷ 1 ∷ 1 ∷ 2 ∷ []) ∷ (0 ∷ 1 ∷ 1 ∷ 2 ∷ []) ∷ (0 ∷ 1 ∷ 1 ∷ 2 ∷ []) ∷ (0 ∷ 1 ∷ 1 ∷ 2 ∷ []) ∷ []
damaged_books = refl

pub damaged_looks : damaged_among (damaged_style short_font ∷ damaged_style short_xf ∷ cell_lines Biff8 bare [] ((4, 2), (7, no_runs))) ≡ 2
damaged_looks = refl

-- lines of sheets between those of their parts
pub damaged_in_sheets : damaged_among (sheet_lines (λ (part : SheetPart). hidden Zeros ∷ hidden (Damaged late_row) ∷ []) parts
    ((80, named 65) ∷ (124, named 65) ∷ (212, named 66) ∷ (300, named 67) ∷ [])) ≡ 3
damaged_in_sheets = refl

pub greatest_counts : map at_most_counted
    (0 ∷ 1 ∷ 18_446_744_073_709_551_614 ∷ 18_446_744_073_709_551_615 ∷ 18_446_744_073_709_551_616 ∷ 36_893_488_147_419_103_232 ∷ [])
    ≡ 0 ∷ 1 ∷ 18_446_744_073_709_551_614 ∷ 18_446_744_073_709_551_615 ∷ 18_446_744_073_709_551_615 ∷ 18_446_744_073_709_551_615 ∷ []
greatest_counts = refl
