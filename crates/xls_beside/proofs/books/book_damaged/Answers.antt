use Rattle.std.proofs.Common.{List, map, sym, ap, ◌∙◌}
use Rattle.xls_other_books.specs.Books.{book_view}
use Rattle.xls_other_books.specs.Names.{NameFields, name_view}
use Rattle.xls_beside.specs.Books.{book_name}
use Rattle.xls_beside.specs.Damaged.{at_most_counted}
use Rattle.xls_beside.proofs.DamagedLemmas.{book_split, counts_same, one_counted}
use Rattle.xls_beside.proofs.books.book_damaged.Goals as goal

pub returns : goal.returns
returns c =
    let book = c.args.book.now in
    let names = ap (λ (l : List NameFields). map (book_name book.linked) (map name_view l)) c.deref.ensures.value in
    one_counted _ _ (c.names_damaged.ensures book.linked ∙ counts_same names) c.record_damaged.ensures c.counted.ensures
    ∙ ap at_most_counted (sym (book_split (book_view book)))
