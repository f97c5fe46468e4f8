use Rattle.std.proofs.Common.{◌≡◌, ◌++◌}
use Rattle.xls_parts.specs.PartRecords.{globals_records}
use Rattle.xls_other_books.specs.Books.{books_view}
use Rattle.xls_other_books.specs.SheetRefs.{refs}
use Rattle.xls_other_books.proofs.sheet_refs.read_refs.Given as goal

-- what was read and what is left are all
abbrev pub invariant-records : goal.invariant-records
invariant-records l = books_view l.books.items ++ refs l.encoding l.r-iterator ≡ refs l.encoding (globals_records l.stream)
