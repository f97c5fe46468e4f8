-- What stands before the `!` of a reference to other sheets (PtgRef3d, PtgArea3d), by what a formula may name. Texts are lists of
-- characters.
use Rattle.std.specs.Prelude.{ℕ, ◌-◌, List, Bool, false, ◌==◌, if◌then◌else◌, Option, Some, None, ℤ, unsigned_abs}
use Rattle.std.specs.Int.{is_negative}
use Rattle.std.specs.List.{list_any, slice_get}
use Rattle.std.specs.Str.{bytes_eq}
use Rattle.xls_formula_names.specs.Prefixes.{Named, gone, one, range}
use Rattle.xls_other_books.specs.declared.entries.Entry.{Entry}
use Rattle.xls_defined_names.specs.Names.{Name}
use Rattle.xls_shown_ptg.specs.declared.tokens.SheetLink.{SheetLink}
use Rattle.xls_shown_ptg.specs.declared.tokens.SheetLink.TheVariants.{Xti, Early}
use Rattle.xls_formula_books.specs.declared.sources.Kind.{Kind}
use Rattle.xls_formula_books.specs.declared.sources.Kind.TheVariants as kinds
use Rattle.xls_formula_books.specs.Books.{Books, entry_at, source_at}
use Rattle.xls_formula_books.specs.Places.{Place, here, book, path, link, place_prefix}
use Rattle.xls_formula_books.specs.Sources.{Source}

-- other books; the defined names; the sheets of this workbook; and the number of the sheet in which the formula stands from 1, 0 for a name
-- of the workbook
pub record Here : Type 0 where
  pub books : Books
  pub names : List Name
  pub sheets : List (List ℕ)
  pub sheet : ℕ

abbrev pub nowhere : Place
nowhere = here gone

-- ---- sheets

abbrev pub one_or_gone : Option (List ℕ) → Named
one_or_gone (Some name) = one name
one_or_gone None = gone

abbrev pub range_or_gone : Option (List ℕ) → Option (List ℕ) → Named
range_or_gone (Some first) (Some last) = range first last
range_or_gone first last = gone

-- by their numbers from 0; one where both are the same
abbrev pub between : List (List ℕ) → ℕ → ℕ → Named
between sheets first last =
    if first == last then one_or_gone (slice_get sheets first)
    else range_or_gone (slice_get sheets first) (slice_get sheets last)

-- by its number from 1
abbrev pub numbered_sheet : List (List ℕ) → ℕ → Named
numbered_sheet sheets number = if number == 0 then gone else one_or_gone (slice_get sheets (number - 1))

-- whether a sheet has this name
abbrev pub has_name : List ℕ → Option (List ℕ) → Bool
has_name name None = false
has_name name (Some sheet) = bytes_eq name sheet

-- by its name
abbrev pub named_sheet : List (List ℕ) → Option (List ℕ) → Named
named_sheet sheets None = gone
named_sheet sheets (Some name) = if list_any (bytes_eq name) sheets then one name else gone

-- ---- BIFF8: an entry of ExternSheet (2.4.106) has the number of a SupBook, and those of the first and the last sheet

abbrev pub place_by : Kind → List (List ℕ) → Entry → Source → Place
place_by kinds.This sheets entry s = here (between sheets entry.first entry.last)
place_by kinds.Workbook sheets entry s = book s.dir s.file (between s.sheets entry.first entry.last)
place_by kinds.Program sheets entry s = link s.app s.topic
place_by kind sheets entry s = nowhere

abbrev pub entry_place : List (List ℕ) → Entry → Source → Place
entry_place sheets entry s = place_by s.kind sheets entry s

abbrev pub source_place : List (List ℕ) → Entry → Option Source → Place
source_place sheets entry (Some s) = entry_place sheets entry s
source_place sheets entry None = nowhere

abbrev pub through : Here → Option Entry → Place
through h (Some entry) = source_place h.sheets entry (source_at h.books entry.book)
through h None = nowhere

abbrev pub xti_place : Here → ℕ → Place
xti_place h number = through h (entry_at h.books number)

-- ---- before BIFF8: the number of an ExternSheet record from 1, or one below 0 and the numbers of the first and the last sheet

abbrev pub numbered_source : Books → ℤ → Option Source
numbered_source books reference =
    if unsigned_abs reference == 0 then None else source_at books (unsigned_abs reference - 1)

-- `DIR[FILE]Sheet`, or the path alone
abbrev pub workbook_place : Source → Option (List ℕ) → Place
workbook_place s (Some sheet) = book s.dir s.file (one sheet)
workbook_place s None = path s.dir s.file

abbrev pub early_by : Kind → Here → Source → Place
early_by kinds.Sheet h s = here (named_sheet h.sheets (slice_get s.sheets 0))
early_by kinds.Own h s = here (numbered_sheet h.sheets h.sheet)
early_by kinds.Workbook h s = workbook_place s (slice_get s.sheets 0)
early_by kinds.Program h s = link s.app s.topic
early_by kind h s = nowhere

abbrev pub early_source_place : Here → Source → Place
early_source_place h s = early_by s.kind h s

abbrev pub early_source_if : Here → Option Source → Place
early_source_if h (Some s) = early_source_place h s
early_source_if h None = nowhere

abbrev pub early_place : Here → ℤ → ℕ → ℕ → Place
early_place h reference first last =
    if is_negative reference then here (between h.sheets first last)
    else early_source_if h (numbered_source h.books reference)

-- ---- both

abbrev pub place : Here → SheetLink → Place
place h (Xti number) = xti_place h number
place h (Early number first last) = early_place h number first last

abbrev pub prefix : Here → SheetLink → List ℕ
prefix h sheets = place_prefix (place h sheets)
