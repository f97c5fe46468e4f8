-- What a reference to sheets names: what stands before its `!`, and the sheets that it cites. Texts are lists of characters.
use Rattle.std.specs.Prelude.{ℕ, List, [], ◌∷◌, ◌++◌, Bool, true, false, if◌then◌else◌}
use Rattle.std.specs.Str.{chars}
use Rattle.xls_formula_names.specs.Links.{link_prefix}
use Rattle.xls_formula_names.specs.Prefixes.{Named, gone, book_prefix, file_prefix, named, sheets_prefix, sheets_text}
use Rattle.xls_formula_books.specs.declared.places.SheetPlace.{SheetPlace}
use Rattle.xls_formula_books.specs.declared.places.SheetPlace.TheVariants as code

-- sheets of this workbook; those of another one, by its folder and file; another one alone; or a program and its topic
pub data Place : Type 0 where
  here : (sheets : Named) → Place
  book : (dir file : List ℕ) (sheets : Named) → Place
  path : (dir file : List ℕ) → Place
  link : (app topic : List ℕ) → Place

abbrev pub place_prefix : Place → List ℕ
place_prefix (here sheets) = sheets_prefix sheets
place_prefix (book dir file sheets) = book_prefix dir file sheets
place_prefix (path dir file) = file_prefix dir file
place_prefix (link app topic) = link_prefix app topic

-- ---- citations, without apostrophes

abbrev pub are_there : Named → Bool
are_there gone = false
are_there sheets = true

-- sheets that are there are cited, and nothing else
abbrev pub is_cited : Place → Bool
is_cited (here sheets) = are_there sheets
is_cited (book dir file sheets) = are_there sheets
is_cited (path dir file) = false
is_cited (link app topic) = false

abbrev pub bracketed : List ℕ → List ℕ → List ℕ
bracketed dir file = dir ++ (0x5B ∷ file ++ 0x5D ∷ [])

abbrev pub plain_text : Place → List ℕ
plain_text (here sheets) = sheets_text sheets
plain_text (book dir file sheets) = bracketed dir file ++ sheets_text sheets
plain_text (path dir file) = []
plain_text (link app topic) = []

abbrev pub cited_text : Place → List ℕ
cited_text place = if is_cited place then plain_text place else []

-- ---- for the contracts

abbrev pub place_view : SheetPlace → Place
place_view (code.Here sheets) = here (named sheets)
place_view (code.Book dir file sheets) = book (chars dir.now) (chars file.now) (named sheets)
place_view (code.File dir file) = path (chars dir.now) (chars file.now)
place_view (code.Link app topic) = link (chars app.now) (chars topic.now)
