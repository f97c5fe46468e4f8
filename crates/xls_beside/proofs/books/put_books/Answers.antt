use Rattle.xls_other_books.specs.Books.{book_view}
use Rattle.xls_other_books.specs.declared.books.Book.{Book}
use Rattle.xls_beside.specs.Books.{book_lines}
use Rattle.std.proofs.Common.{◌∙◌}
use Rattle.xls_output.proofs.EachLemmas.{each-as, each-item, each-item-stopped, each-none, each-stops-as, puts-each-stop}
use Rattle.xls_beside.specs.Lines.{IsLineText}
use Rattle.xls_beside.proofs.LineLemmas.{lines_by, whole_lines}
use Rattle.xls_beside.proofs.books.put_books.Goals as goal

pub loop-book-init : goal.loop-book-init
loop-book-init g c = each-none (IsLineText c.args.form) _

pub loop-book-preserved : goal.loop-book-preserved
loop-book-preserved g c =
    each-item (λ (b : Book). book_lines (book_view b)) c.args.books.now c.loop-book.book-index _
    c.loop-book-test.true c.loop-book.invariant (rw c.book-item.is at c.in_ok-put_book.ensures)

pub returns-in_err-put_book : goal.returns-in_err-put_book
returns-in_err-put_book g c =
    puts-each-stop c.from_residual.result c.from_residual.ensures.1
    (each-stops-as (each-item-stopped (λ (b : Book). book_lines (book_view b)) c.args.books.now c.loop-book.book-index _
    c.loop-book-test.true c.loop-book.invariant (rw c.book-item.is at c.in_err-put_book.ensures))
    (lines_by book_lines book_view c.args.books.now))

pub returns : goal.returns
returns g c =
    each-as c.loop-book.invariant
    (whole_lines (λ (b : Book). book_lines (book_view b)) c.args.books.now _ c.loop-book-test.false
    ∙ lines_by book_lines book_view c.args.books.now)
