use Rattle.std.proofs.Common.{◌∷◌, []}
use Rattle.xls_output.specs.Each.{text_output}
use Rattle.xls_output.proofs.EachLemmas.{EachSome}
use Rattle.xls_beside.specs.Hidden.{hidden}
use Rattle.xls_beside.specs.Lines.{IsLineText}
use Rattle.xls_beside.proofs.hidden.put_items.Given as goal

-- the lines of some items are put, and the others are left
abbrev pub invariant-loop-item : goal.invariant-loop-item
invariant-loop-item g l =
    (goal.iterator-loop-item g).can_next l.item-iterator ×
    (goal.iterator-loop-item g).is_finite l.item-iterator ×
    EachSome (IsLineText l.form) (λ item. hidden item ∷ []) l.fn.items l.item-iterator
    (text_output g.K.Sink.state l.fn.out) (text_output g.K.Sink.state l.out)
