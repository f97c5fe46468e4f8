use Rattle.std.proofs.Common.{◌∷◌, []}
use Rattle.xls_other_books.specs.Names.{NameFields, name_view}
use Rattle.xls_other_books.specs.declared.books.Linked.{Linked}
use Rattle.xls_beside.specs.Books.{book_name}
use Rattle.xls_beside.proofs.DamagedLemmas.{CountedFirst}
use Rattle.xls_beside.proofs.books.names_damaged.Given as goal

-- what is damaged of the names so far is counted
abbrev pub invariant-loop-name : goal.invariant-loop-name
invariant-loop-name l =
    (linked : Linked) → CountedFirst (λ (n : NameFields). book_name linked (name_view n) ∷ []) l.names l.name-index l.count
