-- What formulas cite of other workbooks and programs: in BIFF8 through an entry of ExternSheet (2.4.106).
use Rattle.std.specs.Prelude.{ℕ, ◌-◌, List, [], ◌∷◌, ◌++◌, map, Bool, true, false, ◌||◌, ◌&&◌, nat_le, ◌==◌, if◌then◌else◌, Option, Some, None, Ok, Err}
use Rattle.std.specs.List.{slice_get}
use Rattle.std.specs.Option.{option_map}
use Rattle.std.specs.Str.{bytes_eq, chars}
use Rattle.xls_strings.specs.Texts.{text_of}
use Rattle.xls_other_books.specs.declared.books.Linked.{Linked}
use Rattle.xls_other_books.specs.declared.books.Linked.TheVariants as links
use Rattle.xls_other_books.specs.declared.cites.Cite.{Cite}
use Rattle.xls_other_books.specs.declared.entries.Entry.{Entry}
use Rattle.xls_other_books.specs.declared.outside.Cited.{Cited as CitedFields}
use Rattle.xls_other_books.specs.Books.{Book}
use Rattle.xls_other_books.specs.Names.{Name}

-- a path, the text of the sheets, and a name; empty is what isn't there
pub record Cited : Type 0 where
  pub book : List ℕ
  pub sheet : List ℕ
  pub name : List ℕ

abbrev pub is_outside : Linked → Bool
is_outside links.Book = true
is_outside links.Program = true
is_outside linked = false

-- ---- sheets

abbrev pub sheet_at : Book → ℕ → Option (List ℕ)
sheet_at b number = slice_get b.sheets number

-- the last sheet, where it isn't the first
abbrev pub last_at : Book → Entry → Option (List ℕ)
last_at b entry = if entry.first == entry.last then None else sheet_at b entry.last

abbrev pub range_text : List ℕ → Option (List ℕ) → List ℕ
range_text first None = first
range_text first (Some last) = first ++ 0x3A ∷ last

abbrev pub text_from : Option (List ℕ) → Option (List ℕ) → List ℕ
text_from None last = []
text_from (Some first) last = range_text first last

abbrev pub sheets_text : Book → Entry → List ℕ
sheets_text b entry = text_from (sheet_at b entry.first) (last_at b entry)

-- ---- names

-- nothing for one whose record is damaged
abbrev pub told : Name → List ℕ
told (Ok name) = name
told (Err damage) = []

abbrev pub told_if : Option Name → List ℕ
told_if None = []
told_if (Some name) = told name

abbrev pub name_behind : Book → ℕ → List ℕ
name_behind b count = told_if (slice_get b.names count)

-- by its number from 1
abbrev pub name_at : Book → ℕ → List ℕ
name_at b number = if number == 0 then [] else name_behind b (number - 1)

-- ---- what is cited

abbrev pub cited_in : Book → Entry → Option ℕ → Cited
cited_in b entry (Some number) = record { book = b.path; sheet = []; name = name_at b number }
cited_in b entry None = record { book = b.path; sheet = sheets_text b entry; name = [] }

abbrev pub cited_of : Entry → Option ℕ → Option Book → Option Cited
cited_of entry name None = None
cited_of entry name (Some b) = if is_outside b.linked then Some (cited_in b entry name) else None

abbrev pub cited_through : List Book → Entry → Option ℕ → Option Cited
cited_through books entry name = cited_of entry name (slice_get books entry.book)

abbrev pub through : List Book → Option ℕ → Option Entry → Option Cited
through books name None = None
through books name (Some entry) = cited_through books entry name

abbrev pub cited_by : List Book → List Entry → Cite → Option Cited
cited_by books entries cite = through books cite.name (slice_get entries cite.reference)

-- ---- for the contracts

abbrev pub cited_view : CitedFields → Cited
cited_view c = record { book = chars c.book.now; sheet = text_of c.sheet; name = chars c.name.now }

abbrev pub cited_if : Option CitedFields → Option Cited
cited_if found = option_map cited_view found

abbrev pub cited_views : List CitedFields → List Cited
cited_views found = map cited_view found

-- ---- before BIFF8, through an ExternSheet record

abbrev pub first_sheet : Book → List ℕ
first_sheet b = text_from (sheet_at b 0) None

abbrev pub cited_ref : Option Book → Option Cited
cited_ref None = None
cited_ref (Some b) = if is_outside b.linked then Some (record { book = b.path; sheet = first_sheet b; name = [] }) else None

abbrev pub cited_behind : List Book → ℕ → Option Cited
cited_behind refs count = cited_ref (slice_get refs count)

-- by a signed number from 1; 0 and those below it mean this workbook
abbrev pub cited_before : List Book → Cite → Option Cited
cited_before refs cite =
    if cite.reference == 0 || nat_le 0x8000 cite.reference then None else cited_behind refs (cite.reference - 1)

-- ---- each once

abbrev pub is_equal : Cited → Cited → Bool
is_equal a b = bytes_eq a.book b.book && bytes_eq a.sheet b.sheet && bytes_eq a.name b.name

abbrev pub is_among : Cited → List Cited → Bool
is_among cited [] = false
is_among cited (c ∷ cs) = is_equal cited c || is_among cited cs

abbrev pub with_new : List Cited → Option Cited → List Cited
with_new found None = found
with_new found (Some cited) = if is_among cited found then found else found ++ cited ∷ []

-- each of what is cited once, where it is first cited
abbrev pub distinct : List Cited → List (Option Cited) → List Cited
distinct found [] = found
distinct found (c ∷ cs) = distinct (with_new found c) cs
