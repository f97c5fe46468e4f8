use Rattle.std.proofs.Common.{◌≡◌, ◌++◌, map}
use Rattle.std.specs.Str.{chars}
use Rattle.std.specs.Vec.Iter.{into_iter_items}
use Rattle.xls_refs.specs.Citations.{citation_of}
use Rattle.xls_refs.specs.Cited.{book_citation_of, cited_from}
use Rattle.xls_refs.proofs.book.put_formula.Given as goal

-- the citations so far, and those that are left
abbrev pub invariant-loop-cite : goal.invariant-loop-cite
invariant-loop-cite l =
    map book_citation_of l.out.items ++ map (cited_from l.sheet (chars l.name) (l.row, l.col)) (map citation_of (into_iter_items l.cite-iterator))
    ≡ map book_citation_of l.fn.out.items ++ l.fn.formula
