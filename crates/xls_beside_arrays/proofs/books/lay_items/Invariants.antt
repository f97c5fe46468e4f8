use Rattle.std.proofs.Common.{drop, map}
use Rattle.xls_beside_arrays.proofs.LaidLemmas.{IsPartly}
use Rattle.xls_beside_arrays.proofs.books.lay_items.Given as goal
use Rattle.xls_beside_arrays.specs.Books.{with_book}
use Rattle.xls_other_books.specs.Books.{book_view}

-- what is linked so far is laid
abbrev pub invariant-loop-book : goal.invariant-loop-book
invariant-loop-book l = IsPartly with_book (map book_view l.books) (map book_view (drop l.book-index l.books)) l.fn.rooms l.rooms
