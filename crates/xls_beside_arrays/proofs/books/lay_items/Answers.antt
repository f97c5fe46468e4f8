use Rattle.xls_arrays.proofs.DisplayedLemmas.{map-drop, map-drop_all}
use Rattle.xls_beside_arrays.proofs.LaidLemmas.{partly-all, partly-next}
use Rattle.xls_beside_arrays.proofs.books.lay_items.Goals as goal
use Rattle.xls_beside_arrays.specs.Books.{with_book}
use Rattle.xls_other_books.specs.Books.{book_view}

pub loop-book-preserved : goal.loop-book-preserved
loop-book-preserved c =
    partly-next with_book c.loop-book.invariant
    (map-drop book_view c.args.books.now c.loop-book.book-index _ c.loop-book-test.true c.book-item.is)
    c.in_ok-lay_book.ensures.same c.in_ok-lay_book.ensures.ok

pub returns-clause-ok : goal.returns-clause-ok
returns-clause-ok c =
    partly-all with_book c.loop-book.invariant
    (map-drop_all book_view c.args.books.now c.loop-book.book-index c.loop-book-test.false)
