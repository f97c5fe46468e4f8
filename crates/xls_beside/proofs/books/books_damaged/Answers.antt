use Rattle.std.proofs.Common.{◌∙◌}
use Rattle.xls_other_books.specs.Books.{book_view}
use Rattle.xls_other_books.specs.declared.books.Book.{Book}
use Rattle.xls_beside.specs.Books.{book_lines}
use Rattle.xls_beside.proofs.DamagedLemmas.{counts_same, first_all, first_next}
use Rattle.xls_beside.proofs.LineLemmas.{lines_by}
use Rattle.xls_beside.proofs.books.books_damaged.Goals as goal

pub loop-book-preserved : goal.loop-book-preserved
loop-book-preserved c =
    first_next (λ (b : Book). book_lines (book_view b)) c.args.books.now c.loop-book.book-index _ c.loop-book-test.true
    c.loop-book.invariant (rw c.book-item.is at c.book_damaged.ensures) c.counted-count.ensures

pub returns : goal.returns
returns c =
    first_all (λ (b : Book). book_lines (book_view b)) c.args.books.now _ c.loop-book-test.false c.loop-book.invariant
    ∙ counts_same (lines_by book_lines book_view c.args.books.now)
