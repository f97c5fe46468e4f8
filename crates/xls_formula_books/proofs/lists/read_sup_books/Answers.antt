use Rattle.std.proofs.Common.{[]}
use Rattle.xls_parts.specs.PartRecords.{globals_records, placed_of}
use Rattle.xls_formula_books.specs.Lists.{sup_books}
use Rattle.xls_formula_books.proofs.ListLemmas.{book_added, left_shorter}
use Rattle.xls_formula_books.proofs.lists.read_sup_books.Goals as goal

pub records-smaller-then-r-eq-SUP_BOOK : goal.records-smaller-then-r-eq-SUP_BOOK
records-smaller-then-r-eq-SUP_BOOK c =
    left_shorter c.records.records c.take.new.self c.in_ok-source.left (placed_of c.in-Some.r) c.in-Some.ensures c.in_ok-source.ensures.behind

pub records-preserved-then-r-eq-SUP_BOOK : goal.records-preserved-then-r-eq-SUP_BOOK
records-preserved-then-r-eq-SUP_BOOK c =
    let page = c.args.encoding.now in
    book_added page (placed_of c.in-Some.r) c.records.records c.take.new.self c.in_ok-source.left c.records.found.items c.push.new.self.items c.in_ok-source.source (sup_books page [] (globals_records c.args.stream.now))
    c.in-Some.ensures c.if-r-eq-SUP_BOOK.true c.in_ok-source.ensures.source c.in_ok-source.ensures.behind c.in_ok-push.ensures.items c.records.invariant
