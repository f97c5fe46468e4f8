use Rattle.xls_other_books.specs.Outside.{cited_view}
use Rattle.xls_other_books.specs.declared.outside.Cited.{Cited}
use Rattle.xls_beside.specs.Books.{cited_line}
use Rattle.std.proofs.Common.{◌∷◌, [], take}
use Rattle.std.specs.List.{flat_map}
use Rattle.xls_output.specs.Each.{GathersEach, text_output}
use Rattle.xls_beside.specs.Lines.{IsLineText}
use Rattle.xls_beside.proofs.books.put_all_cited.Given as goal

-- the lines of what is cited so far are put
abbrev pub invariant-loop-next : goal.invariant-loop-next
invariant-loop-next g l =
    GathersEach (IsLineText l.form) (flat_map (λ (x : Cited). cited_line l.row l.column (cited_view x) ∷ []) (take l.next-index l.cited))
    (text_output g.K.Sink.state l.fn.out) (text_output g.K.Sink.state l.out)
