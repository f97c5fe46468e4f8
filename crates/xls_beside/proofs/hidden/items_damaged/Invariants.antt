use Rattle.xls_beside.specs.Hidden.{hidden}
use Rattle.xls_beside.proofs.DamagedLemmas.{CountedSome}
use Rattle.xls_beside.proofs.hidden.items_damaged.Given as goal

-- what is counted and what is left are together all
abbrev pub invariant-loop-item : goal.invariant-loop-item
invariant-loop-item l =
    goal.iterator-loop-item.can_next l.item-iterator ×
    goal.iterator-loop-item.is_finite l.item-iterator ×
    CountedSome hidden l.fn.items l.item-iterator l.count
