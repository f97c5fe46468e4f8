use Rattle.std.proofs.Common.{◌≡◌, ◌++◌, None}
use Rattle.xls_parts.specs.PartRecords.{globals_records}
use Rattle.xls_other_books.specs.Books.{books_view, view_if}
use Rattle.xls_other_books.specs.SheetRefs.{grouped, refs}
use Rattle.xls_other_books.proofs.sheet_refs.read_sheet_refs.Given as goal

-- what was read, the last so far and what is left are all
abbrev pub invariant-records : goal.invariant-records
invariant-records l = books_view l.books.items ++ grouped (view_if l.last) (refs l.encoding l.r-iterator) ≡ grouped None (refs l.encoding (globals_records l.stream))
