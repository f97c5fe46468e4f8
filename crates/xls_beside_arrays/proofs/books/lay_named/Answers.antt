use Rattle.std.proofs.lemmas.Result.{on_ok_weaker}
use Rattle.xls_beside_arrays.proofs.LaidLemmas.{lays-two}
use Rattle.xls_beside_arrays.proofs.books.lay_named.Goals as goal
use Rattle.xls_beside_arrays.specs.Books.{book_item}

pub returns-clause-ok : goal.returns-clause-ok
returns-clause-ok c =
    on_ok_weaker c.lay_item.result
    (lays-two (book_item c.args.kind) c.in_ok-path.ensures.ok c.in_ok-topic.ensures.ok c.book_item.ensures)
    c.lay_item.ensures.ok
