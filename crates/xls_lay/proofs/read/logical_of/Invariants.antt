use Rattle.xls_lay.proofs.ReadLemmas.{Read}
use Rattle.xls_lay.proofs.read.logical_of.Given as goal

abbrev pub invariant-loop-record : goal.invariant-loop-record
invariant-loop-record l =
    (goal.iterator-loop-record).can_next l.record-iterator ×
    (goal.iterator-loop-record).is_finite l.record-iterator ×
    Read l.bytes l.record-iterator l.list
