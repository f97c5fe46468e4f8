use Rattle.xls_parts.specs.PartRecords.{globals_records, placed_of}
use Rattle.xls_other_books.specs.SupBooks.{sup_books}
use Rattle.xls_other_books.proofs.BookLemmas.{books_more, left_shorter}
use Rattle.xls_other_books.proofs.sup_books.read_sup_books.Goals as goal

pub records-smaller-then-r-eq-SUP_BOOK : goal.records-smaller-then-r-eq-SUP_BOOK
records-smaller-then-r-eq-SUP_BOOK c =
    left_shorter c.records.records c.take.new.self c.in_ok-book.left (placed_of c.in-Some.r) c.in-Some.ensures c.in_ok-book.ensures.passed

pub records-preserved-then-r-eq-SUP_BOOK : goal.records-preserved-then-r-eq-SUP_BOOK
records-preserved-then-r-eq-SUP_BOOK c =
    let page = c.args.encoding.now in
    books_more page (placed_of c.in-Some.r) c.records.records c.take.new.self c.in_ok-book.left c.records.books.items c.push.new.self.items c.in_ok-book.book (sup_books page (globals_records c.args.stream.now))
    c.in-Some.ensures c.if-r-eq-SUP_BOOK.true c.in_ok-book.ensures.is c.in_ok-book.ensures.passed c.in_ok-push.ensures.items c.records.invariant
