-- The other workbooks, programs and added functions that a workbook refers to, as items.
use Rattle.std.specs.Prelude.{ℕ, List, [], encode_utf8_all, Option, Some, None, Ok, Err}
use Rattle.std.specs.List.{fold}
use Rattle.xls_other_books.specs.Books.{Book}
use Rattle.xls_other_books.specs.Links.{links_of}
use Rattle.xls_other_books.specs.Names.{Name}
use Rattle.xls_other_books.specs.Texts.{flaw_text}
use Rattle.xls_other_books.specs.declared.books.Linked.{Linked}
use Rattle.xls_other_books.specs.declared.books.Linked.TheVariants as links
use Rattle.xls_other_books.specs.declared.damage.Damage.{Damage}
use Rattle.xls_other_books.specs.declared.damage.DamagedRecord.{DamagedRecord}
use Rattle.xls_other_books.specs.declared.damage.DamagedRecord.TheVariants as names
use Rattle.xls_other_books.specs.declared.types.TheConstants.{EXTERN_NAME, SUP_BOOK}
use Rattle.xls_stream.specs.declared.types.TheConstants.{EXTERN_SHEET}
use Rattle.xls_open.specs.Globals.{State}
use Rattle.xls_parts.specs.PartRecords.{globals_records}
use Rattle.xls_arrays.specs.declared.faults.Fault.{Fault}
use Rattle.xls_arrays.specs.declared.items.Span.{Span}
use Rattle.xls_arrays.specs.declared.options.Options.{Options}
use Rattle.xls_beside_arrays.specs.Answers.{Fills}
use Rattle.xls_beside_arrays.specs.Arrays.{Arrays, nothing, with_two}
use Rattle.xls_beside_arrays.specs.Damages.{with_damage}
use Rattle.xls_beside_arrays.specs.Opened.{IsOfBook, RefusesBook}
use Rattle.xls_beside_arrays.specs.declared.damage.Damaged.{Damaged}
use Rattle.xls_beside_arrays.specs.declared.items.BookItem.{BookItem}
use Rattle.xls_beside_arrays.specs.declared.items.Counts.{Counts}

-- ---- kinds

-- a workbook or a program; what is neither has no item
abbrev pub linked_number : Linked → Option ℕ
linked_number links.Nothing = None
linked_number links.Functions = None
linked_number links.Book = Some 0
linked_number links.Program = Some 1

-- a sheet
abbrev pub sheet_number : ℕ
sheet_number = 2

-- a name, or that of an added function
abbrev pub name_number : Linked → ℕ
name_number links.Functions = 4
name_number linked = 3

-- ---- items

abbrev pub book_item : ℕ → Span → Span → BookItem
book_item kind path topic = record { path = path; topic = topic; kind = kind; reserved = 0 }

-- a sheet or a name has no topic
abbrev pub with_named : ℕ → Arrays BookItem → List ℕ → Arrays BookItem
with_named kind a name = with_two (book_item kind) (encode_utf8_all name) [] a

abbrev pub with_linked : Option ℕ → Arrays BookItem → Book → Arrays BookItem
with_linked None a b = a
with_linked (Some kind) a b = with_two (book_item kind) (encode_utf8_all b.path) (encode_utf8_all b.topic) a

abbrev pub with_sheet : Arrays BookItem → List ℕ → Arrays BookItem
with_sheet a name = with_named sheet_number a name

-- ---- damage

abbrev pub record_number : DamagedRecord → ℕ
record_number names.SupBook = SUP_BOOK
record_number names.ExternName = EXTERN_NAME
record_number names.ExternSheet = EXTERN_SHEET

-- it stands in no cell
abbrev pub damaged_of : Damage → Damaged
damaged_of d = record { record_type = record_number d.record_name; offset = d.offset; row = None; column = None }

abbrev pub with_damaged : Arrays BookItem → Damage → Arrays BookItem
with_damaged a d = with_damage a (damaged_of d) (flaw_text d.flaw)

abbrev pub with_damage_if : Option Damage → Arrays BookItem → Arrays BookItem
with_damage_if None a = a
with_damage_if (Some d) a = with_damaged a d

-- ---- all

-- a name, or an ExternName that is damaged
abbrev pub with_name : Linked → Arrays BookItem → Name → Arrays BookItem
with_name linked a (Ok name) = with_named (name_number linked) a name
with_name linked a (Err d) = with_damaged a d

-- its own item, its sheets, its names, and what is wrong with its record
abbrev pub with_book : Arrays BookItem → Book → Arrays BookItem
with_book a b =
    with_damage_if b.damage
    (fold (with_name b.linked) (fold with_sheet (with_linked (linked_number b.linked) a b) b.sheets) b.names)

abbrev pub books_arrays : State → List ℕ → Arrays BookItem
books_arrays globals stream = fold with_book nothing (links_of globals.version globals.page (globals_records stream)).books

abbrev pub AreBooks : Options → List ℕ → Arrays BookItem → Type 0
AreBooks = IsOfBook books_arrays

abbrev pub FillsBooks : Options → List ℕ → Arrays BookItem → Counts → Fault → ℕ → Type 0
FillsBooks options stream = Fills (AreBooks options stream) (RefusesBook options stream)
