use Rattle.std.proofs.Common.{map, sym, ap, ◌∙◌}
use Rattle.std.specs.List.{flat_map}
use Rattle.xls_open.specs.Globals.{State, listed_of}
use Rattle.xls_other_books.specs.Links.{Links, links_of}
use Rattle.xls_parts.specs.PartRecords.{globals_records}
use Rattle.xls_beside.specs.Books.{book_lines, books_lines}
use Rattle.xls_beside.specs.Damaged.{at_most_counted}
use Rattle.xls_beside.proofs.DamagedLemmas.{books_alone, counts_same}
use Rattle.xls_beside.proofs.books.damaged_books.Goals as goal

pub returns : goal.returns
returns c =
    let stream = c.args.stream.now in
    let inside = c.globals.inside in
    let linked = links_of inside.version inside.page (globals_records stream) in
    let read = c.books.ensures ∙ ap (λ (l : Links). l.books) c.in_ok-other.ensures in
    c.books_damaged.ensures
    ∙ counts_same (ap (flat_map book_lines) read)
    ∙ ap at_most_counted (sym (books_alone linked inside.version (map listed_of inside.listed.items) stream))
    ∙ counts_same (ap (λ (s : State). books_lines s.version s.page s.sheets stream) c.globals.view_is)
