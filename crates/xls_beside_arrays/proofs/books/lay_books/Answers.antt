use Rattle.std.proofs.Common.{List, ap, ◌∙◌}
use Rattle.std.specs.List.{fold}
use Rattle.xls_open.specs.Globals.{State}
use Rattle.xls_other_books.specs.Books.{Book, books_view}
use Rattle.xls_other_books.specs.Links.{Links, links_of}
use Rattle.xls_parts.specs.PartRecords.{globals_records}
use Rattle.xls_beside_arrays.specs.Arrays.{nothing}
use Rattle.xls_beside_arrays.specs.Books.{books_arrays, with_book}
use Rattle.xls_beside_arrays.proofs.LaidLemmas.{book-held}
use Rattle.xls_beside_arrays.proofs.books.lay_books.Goals as goal

pub returns-clause-ok : goal.returns-clause-ok
returns-clause-ok c =
    let records = globals_records c.args.stream.now in
    let other = c.in_ok-other.ensures ∙ ap (λ (s : State). links_of s.version s.page records) c.globals.view_is in
    let books = c.books.ensures ∙ ap (λ (l : Links). l.books) other in
    book-held books_arrays (λ a. fold with_book a (books_view c.books.result.now)) c.in_ok-globals.ensures.ok
    (ap (λ (bs : List Book). fold with_book nothing bs) books) c.in_ok-lay_items.ensures.ok
