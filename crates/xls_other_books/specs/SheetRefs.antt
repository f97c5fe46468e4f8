-- ExternSheet (2.4.106) before BIFF8, this project's rule: a count, and so many bytes in the page, whose first says what
-- is meant: 0, 2, 3 and 4 this workbook, 3A added functions, all others a path, in which the name of the file may stand
-- in brackets before that of a sheet.
use Rattle.std.specs.Prelude.{◌≡◌, ℕ, List, [], ◌∷◌, ◌++◌, slice_index, length, Bool, ◌&&◌, ◌||◌, nat_lt, ◌==◌, if◌then◌else◌, Option, Some, None}
use Rattle.std.specs.Borrow.{Bor}
use Rattle.std.specs.List.{list_any, before_first, after_first}
use Rattle.std.specs.Str.{chars, bytes_eq}
use Rattle.xls_bytes.specs.Characters.{is}
use Rattle.xls_parts.specs.PartRecords.{Placed}
use Rattle.xls_record.specs.declared.version.Biff.TheVariants.{Biff5}
use Rattle.xls_stream.specs.declared.types.TheConstants.{EXTERN_SHEET}
use Rattle.xls_text.specs.declared.encoding.XlsEncoding.{XlsEncoding}
use Rattle.xls_other_books.specs.declared.books.Linked.{Linked}
use Rattle.xls_other_books.specs.declared.books.Linked.TheVariants as links
use Rattle.xls_other_books.specs.declared.damage.Damage.{Damage}
use Rattle.xls_other_books.specs.declared.damage.DamagedRecord.TheVariants as records
use Rattle.xls_other_books.specs.declared.damage.Flaw.{Flaw}
use Rattle.xls_other_books.specs.declared.damage.Flaw.TheVariants as flaws
use Rattle.xls_other_books.specs.Books.{Book, is_book}
use Rattle.xls_other_books.specs.Names.{short_text}
use Rattle.xls_other_books.specs.Paths.{Target, target_of}

-- ---- a record

abbrev pub bare : Linked → Option Damage → Book
bare linked damage = record { linked = linked; path = []; topic = []; sheets = []; names = []; damage = damage }

abbrev pub damaged : ℕ → Flaw → Book
damaged offset flaw = bare links.Nothing (Some (record { record_name = records.ExternSheet; offset = offset; flaw = flaw }))

-- an empty name is no sheet
abbrev pub sheets_of : List ℕ → List (List ℕ)
sheets_of [] = []
sheets_of (c ∷ cs) = (c ∷ cs) ∷ []

abbrev pub book_in : List ℕ → List ℕ → List ℕ → Book
book_in folder file sheet = record {
  linked = links.Book;
  path = folder ++ file;
  topic = [];
  sheets = sheets_of sheet;
  names = [];
  damage = None;
}

-- what stands before, between and behind brackets
abbrev pub Parts : Type 0
Parts = List ℕ × List ℕ × List ℕ

abbrev pub closed : List ℕ → List ℕ → Option Parts
closed folder rest =
    if list_any (is 0x5D) rest then Some (folder, before_first (is 0x5D) rest, after_first (is 0x5D) rest) else None

abbrev pub split_path : List ℕ → Option Parts
split_path path =
    if list_any (is 0x5B) path then closed (before_first (is 0x5B) path) (after_first (is 0x5B) path) else None

abbrev pub book_by : List ℕ → Option Parts → Book
book_by path (Some x) = book_in x.0 x.1 x.2
book_by path None = book_in path [] []

abbrev pub book_of : List ℕ → Book
book_of path = book_by path (split_path path)

-- by what the path tells
abbrev pub linked_by : Target → Book
linked_by target =
    if is_book target.linked then book_of target.path
    else record { linked = target.linked; path = target.path; topic = target.topic; sheets = []; names = []; damage = None }

-- by the first byte of the name
abbrev pub ref_by : XlsEncoding → List ℕ → ℕ → Book
ref_by page body first =
    if first == 0 || first == 2 || first == 3 || first == 4 then bare links.Nothing None
    else if first == 0x3A then bare links.Functions None
    else linked_by (target_of (short_text Biff5 page body))

abbrev pub ref_of : XlsEncoding → Placed → Book
ref_of page r =
    if length r.body == 0 then damaged r.offset flaws.Empty
    else if nat_lt (length r.body) 2 || slice_index r.body 0 == 0 then damaged r.offset flaws.Nameless
    else ref_by page r.body (slice_index r.body 1)

-- ---- all records

abbrev pub refs : XlsEncoding → List Placed → List Book
refs page [] = []
refs page (r ∷ rs) = if r.typ == EXTERN_SHEET then ref_of page r ∷ refs page rs else refs page rs

-- two records of one path
abbrev pub goes_on : Book → Book → Bool
goes_on last next = is_book last.linked && is_book next.linked && bytes_eq last.path next.path

abbrev pub with_sheets : Book → List (List ℕ) → Book
with_sheets b sheets = record {
  linked = b.linked;
  path = b.path;
  topic = b.topic;
  sheets = b.sheets ++ sheets;
  names = b.names;
  damage = b.damage;
}

-- those of one path in sequence are one, behind the last one so far
abbrev pub grouped : Option Book → List Book → List Book
grouped None [] = []
grouped None (b ∷ bs) = grouped (Some b) bs
grouped (Some last) [] = last ∷ []
grouped (Some last) (b ∷ bs) = if goes_on last b then grouped (Some (with_sheets last b.sheets)) bs else last ∷ grouped (Some b) bs

-- ---- for the contracts

abbrev pub parts_view : Bor (List ℕ) × Bor (List ℕ) × Bor (List ℕ) → Parts
parts_view x = (chars x.0.now, chars x.1.now, chars x.2.now)

-- one more was put behind the last: what comes of the others stays the same
pub record Joins (books : List Book) (last : Option Book) (next : Book) (new : List Book) (book : Book) : Type 0 where
  pub same : (more : List Book) → new ++ grouped (Some book) more ≡ books ++ grouped last (next ∷ more)
