use Rattle.std.proofs.Common.{◌≡◌, drop}
use Rattle.xls_other_books.specs.Outside.{cited_view, cited_views, is_among}
use Rattle.xls_other_books.proofs.outside.is_among.Given as goal

-- it is among those that are left where it is among all
abbrev pub invariant-found : goal.invariant-found
invariant-found l = is_among (cited_view l.cited) (cited_views (drop l.other-index l.found)) ≡ is_among (cited_view l.cited) (cited_views l.found)
