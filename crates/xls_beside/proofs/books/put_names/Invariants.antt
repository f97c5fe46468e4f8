use Rattle.xls_other_books.specs.Names.{NameFields, name_view}
use Rattle.xls_beside.specs.Books.{book_name}
use Rattle.std.proofs.Common.{◌∷◌, [], take}
use Rattle.std.specs.List.{flat_map}
use Rattle.xls_output.specs.Each.{GathersEach, text_output}
use Rattle.xls_beside.specs.Lines.{IsLineText}
use Rattle.xls_beside.proofs.books.put_names.Given as goal

-- the lines of the names so far are put
abbrev pub invariant-loop-name : goal.invariant-loop-name
invariant-loop-name g l =
    GathersEach (IsLineText l.form) (flat_map (λ (n : NameFields). book_name l.linked (name_view n) ∷ []) (take l.name-index l.names))
    (text_output g.K.Sink.state l.fn.out) (text_output g.K.Sink.state l.out)
