use Rattle.std.proofs.Common.{drop, map}
use Rattle.xls_beside_arrays.proofs.LaidLemmas.{IsPartly}
use Rattle.xls_beside_arrays.proofs.books.lay_names.Given as goal
use Rattle.xls_beside_arrays.specs.Books.{with_name}
use Rattle.xls_other_books.specs.Names.{name_view}

-- the names so far are laid
abbrev pub invariant-loop-name : goal.invariant-loop-name
invariant-loop-name l = IsPartly (with_name l.linked) (map name_view l.names) (map name_view (drop l.name-index l.names)) l.fn.rooms l.rooms
