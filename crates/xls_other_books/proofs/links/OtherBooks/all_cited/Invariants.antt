use Rattle.std.proofs.Common.{◌≡◌, map, drop}
use Rattle.xls_other_books.specs.Formulas.{all_cited, cited}
use Rattle.xls_other_books.specs.Outside.{cited_views, distinct}
use Rattle.xls_other_books.proofs.links.OtherBooks.all_cited.Given as goal

-- what was found and what is left are all
abbrev pub invariant-cites : goal.invariant-cites
invariant-cites l = distinct (cited_views l.found.items) (map (cited l.self) (drop l.cite-index l.cites)) ≡ all_cited l.self l.cites
