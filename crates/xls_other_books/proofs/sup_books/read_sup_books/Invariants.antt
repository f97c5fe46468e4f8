use Rattle.std.proofs.Common.{◌≡◌, ◌++◌, length}
use Rattle.xls_parts.specs.PartRecords.{globals_records}
use Rattle.xls_other_books.specs.Books.{books_view}
use Rattle.xls_other_books.specs.SupBooks.{sup_books}
use Rattle.xls_other_books.proofs.sup_books.read_sup_books.Given as goal

-- what was read and what is left is all
abbrev pub invariant-records : goal.invariant-records
invariant-records l = books_view l.books.items ++ sup_books l.encoding l.records ≡ sup_books l.encoding (globals_records l.stream)

abbrev pub decreases-records : goal.decreases-records
decreases-records l = length l.records
