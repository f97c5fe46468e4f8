use Rattle.std.proofs.Common.{◌∷◌, []}
use Rattle.xls_output.specs.Each.{text_output}
use Rattle.xls_output.proofs.EachLemmas.{EachSome}
use Rattle.xls_beside.specs.Comments.{comment}
use Rattle.xls_beside.specs.Lines.{IsLineText}
use Rattle.xls_beside.proofs.comments.put_items.Given as goal

-- the lines of some items are put, and the others are left
abbrev pub invariant-loop-next : goal.invariant-loop-next
invariant-loop-next g l =
    (goal.iterator-loop-next g).can_next l.next-iterator ×
    (goal.iterator-loop-next g).is_finite l.next-iterator ×
    EachSome (IsLineText l.form) (λ item. comment item ∷ []) l.fn.comments l.next-iterator
    (text_output g.K.Sink.state l.fn.out) (text_output g.K.Sink.state l.out)
