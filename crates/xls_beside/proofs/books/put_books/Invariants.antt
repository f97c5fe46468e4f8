use Rattle.xls_other_books.specs.Books.{book_view}
use Rattle.xls_other_books.specs.declared.books.Book.{Book}
use Rattle.xls_beside.specs.Books.{book_lines}
use Rattle.std.proofs.Common.{take}
use Rattle.std.specs.List.{flat_map}
use Rattle.xls_output.specs.Each.{GathersEach, text_output}
use Rattle.xls_beside.specs.Lines.{IsLineText}
use Rattle.xls_beside.proofs.books.put_books.Given as goal

-- the lines of all so far are put
abbrev pub invariant-loop-book : goal.invariant-loop-book
invariant-loop-book g l =
    GathersEach (IsLineText l.form) (flat_map (λ (b : Book). book_lines (book_view b)) (take l.book-index l.books))
    (text_output g.K.Sink.state l.fn.out) (text_output g.K.Sink.state l.out)
