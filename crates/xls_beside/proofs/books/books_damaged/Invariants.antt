use Rattle.xls_other_books.specs.Books.{book_view}
use Rattle.xls_other_books.specs.declared.books.Book.{Book}
use Rattle.xls_beside.specs.Books.{book_lines}
use Rattle.xls_beside.proofs.DamagedLemmas.{CountedFirst}
use Rattle.xls_beside.proofs.books.books_damaged.Given as goal

-- what is damaged of the books so far is counted
abbrev pub invariant-loop-book : goal.invariant-loop-book
invariant-loop-book l = CountedFirst (λ (b : Book). book_lines (book_view b)) l.books l.book-index l.count
