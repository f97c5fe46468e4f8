use Rattle.xls_beside.specs.Links.{link}
use Rattle.xls_beside.proofs.DamagedLemmas.{CountedSome}
use Rattle.xls_beside.proofs.links.items_damaged.Given as goal

-- what is counted and what is left are together all
abbrev pub invariant-loop-next : goal.invariant-loop-next
invariant-loop-next l =
    goal.iterator-loop-next.can_next l.next-iterator ×
    goal.iterator-loop-next.is_finite l.next-iterator ×
    CountedSome link l.fn.links l.next-iterator l.count
