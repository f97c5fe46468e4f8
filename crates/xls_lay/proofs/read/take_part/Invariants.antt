use Rattle.xls_lay.proofs.PartReadLemmas.{PartSoFar}
use Rattle.xls_lay.proofs.read.take_part.Given as goal

abbrev pub invariant-loop-record : goal.invariant-loop-record
invariant-loop-record l =
    (goal.iterator-loop-record).can_next l.record-iterator ×
    (goal.iterator-loop-record).is_finite l.record-iterator ×
    PartSoFar l.fn.list l.list l.part l.record-iterator.0 l.record-iterator.1
