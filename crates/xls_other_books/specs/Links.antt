-- All that a workbook links.
use Rattle.std.specs.Prelude.{List, [], None, if◌then◌else◌}
use Rattle.xls_parts.specs.PartRecords.{Placed}
use Rattle.xls_record.specs.Version.{is_biff8}
use Rattle.xls_record.specs.declared.version.Biff.{Biff}
use Rattle.xls_text.specs.declared.encoding.XlsEncoding.{XlsEncoding}
use Rattle.xls_other_books.specs.declared.entries.Entry.{Entry}
use Rattle.xls_other_books.specs.Books.{Book}
use Rattle.xls_other_books.specs.Entries.{entries_of}
use Rattle.xls_other_books.specs.SheetRefs.{grouped, refs}
use Rattle.xls_other_books.specs.SupBooks.{sup_books}

-- by the records of the globals
abbrev pub books_of : Biff → XlsEncoding → List Placed → List Book
books_of version page records = if is_biff8 version then sup_books page records else grouped None (refs page records)

-- what is linked, and by what formulas cite it: in BIFF8 entries of ExternSheet, before it the ExternSheet records
pub record Links : Type 0 where
  pub version : Biff
  pub books : List Book
  pub entries : List Entry
  pub refs : List Book

abbrev pub entries_if : Biff → List Placed → List Entry
entries_if version records = if is_biff8 version then entries_of records else []

abbrev pub refs_if : Biff → XlsEncoding → List Placed → List Book
refs_if version page records = if is_biff8 version then [] else refs page records

abbrev pub links_of : Biff → XlsEncoding → List Placed → Links
links_of version page records = record {
  version = version;
  books = books_of version page records;
  entries = entries_if version records;
  refs = refs_if version page records;
}
