-- What of this workbook formulas refer to: the sheet in which they stand, and defined names by reference (PtgNameX).
use Rattle.std.specs.Prelude.{ℕ, if◌then◌else◌, Option, Some, None, ℤ}
use Rattle.std.specs.Int.{is_negative}
use Rattle.xls_other_books.specs.declared.entries.Entry.{Entry}
use Rattle.xls_shown_ptg.specs.declared.tokens.NameLink.{NameLink}
use Rattle.xls_shown_ptg.specs.declared.tokens.NameLink.TheVariants.{Xti, Early}
use Rattle.xls_formula_books.specs.declared.sources.Kind.{Kind}
use Rattle.xls_formula_books.specs.declared.sources.Kind.TheVariants as kinds
use Rattle.xls_formula_books.specs.Books.{entry_at, source_at}
use Rattle.xls_formula_books.specs.ExternNames.{Name}
use Rattle.xls_formula_books.specs.Names.{is_this, numbered_name}
use Rattle.xls_formula_books.specs.Places.{Place, here}
use Rattle.xls_formula_books.specs.Prefixes.{Here, numbered_sheet, numbered_source}
use Rattle.xls_formula_books.specs.Sources.{Source}

-- the sheet in which the formula stands
abbrev pub own_place : Here → Place
own_place h = here (numbered_sheet h.sheets h.sheet)

-- ---- the number of a defined name, from 1. BIFF8: through an entry of ExternSheet for this workbook

abbrev pub number_by : Kind → ℕ → Option ℕ
number_by kinds.This number = Some number
number_by kind number = None

abbrev pub source_number : ℕ → Option Source → Option ℕ
source_number number (Some s) = number_by s.kind number
source_number number None = None

abbrev pub number_through : Here → ℕ → Option Entry → Option ℕ
number_through h number (Some entry) = source_number number (source_at h.books entry.book)
number_through h number None = None

-- ---- before BIFF8: through an ExternSheet record of this workbook that has no ExternName of the number, or where its number is below 0

abbrev pub unless_named : ℕ → Option Name → Option ℕ
unless_named number (Some n) = None
unless_named number None = Some number

abbrev pub early_source_number : ℕ → Source → Option ℕ
early_source_number number s = if is_this s.kind then unless_named number (numbered_name s number) else None

abbrev pub early_number_if : ℕ → Option Source → Option ℕ
early_number_if number (Some s) = early_source_number number s
early_number_if number None = None

abbrev pub early_number : Here → ℤ → ℕ → Option ℕ
early_number h reference number =
    if is_negative reference then Some number else early_number_if number (numbered_source h.books reference)

-- ---- both

abbrev pub own_name : Here → NameLink → Option ℕ
own_name h (Xti ixti number) = number_through h number (entry_at h.books ixti)
own_name h (Early reference number) = early_number h reference number
