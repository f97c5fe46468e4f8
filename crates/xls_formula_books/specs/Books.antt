-- What a workbook's formulas may refer to.
use Rattle.std.specs.Prelude.{ℕ, List, [], ◌∷◌, if◌then◌else◌, Option, Some, None}
use Rattle.std.specs.List.{slice_get}
use Rattle.xls_parts.specs.PartRecords.{Placed}
use Rattle.xls_text.specs.declared.encoding.XlsEncoding.{XlsEncoding}
use Rattle.xls_record.specs.declared.version.Biff.{Biff}
use Rattle.xls_record.specs.Version.{is_biff8}
use Rattle.xls_other_books.specs.declared.entries.Entry.{Entry}
use Rattle.xls_other_books.specs.Entries.{entries_of}
use Rattle.xls_formula_books.specs.Lists.{sheet_refs, sup_books}
use Rattle.xls_formula_books.specs.Sources.{Source}

-- of BIFF8 what SupBook records say, and the entries of ExternSheet; before it what ExternSheet records say
pub record Books : Type 0 where
  pub version : Biff
  pub sources : List Source
  pub entries : List Entry

abbrev pub early_books : Biff → List Source → Books
early_books version sources = record { version = version; sources = sources; entries = [] }

-- by the records of the globals
abbrev pub books_of : Biff → XlsEncoding → List Placed → Books
books_of version page records =
    if is_biff8 version
    then record { version = version; sources = sup_books page [] records; entries = entries_of records }
    else early_books version (sheet_refs page [] records)

-- by the records of a sheet's own
abbrev pub books_if : Biff → List Source → Option Books
books_if version [] = None
books_if version (s ∷ ss) = Some (early_books version (s ∷ ss))

abbrev pub own_books : Biff → XlsEncoding → List Placed → Option Books
own_books version page records = if is_biff8 version then None else books_if version (sheet_refs page [] records)

-- ---- look-ups

abbrev pub entry_at : Books → ℕ → Option Entry
entry_at books number = slice_get books.entries number

abbrev pub source_at : Books → ℕ → Option Source
source_at books number = slice_get books.sources number
