use Rattle.std.proofs.Common.{◌∙◌, ap, map, not}
use Rattle.xls_parts.specs.PartRecords.{placed_of}
use Rattle.xls_other_books.specs.Names.{name_view, from_sup_book}
use Rattle.xls_other_books.proofs.BookLemmas.{book_is}
use Rattle.xls_other_books.proofs.sup_books.read_book.Goals as goal

pub returns : goal.returns
returns c = record {
  is = book_is c.args.encoding.now (placed_of c.args.r.now) c.args.records c.in_ok-head.left c.in_ok-head.head (not c.is_nothing-is_wanted.result) (map name_view c.in_ok-names.names.items) c.damage_of.result
      c.in_ok-head.ensures.head c.in_ok-head.ensures.behind (ap not c.is_nothing-is_wanted.ensures) c.in_ok-names.ensures.are c.damage_of.ensures;
  passed = c.in_ok-names.ensures.passed ∙ ap from_sup_book c.in_ok-head.ensures.behind;
}
