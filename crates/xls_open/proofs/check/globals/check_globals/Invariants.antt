use Rattle.xls_open.specs.CheckSteps.{under}
use Rattle.xls_open.proofs.GlobalsLemmas.{CheckedSoFar}
use Rattle.xls_open.proofs.check.globals.check_globals.Given as goal

abbrev pub invariant-loop-record : goal.invariant-loop-record
invariant-loop-record l =
    (goal.iterator-loop-record).can_next l.record-iterator ×
    (goal.iterator-loop-record).is_finite l.record-iterator ×
    CheckedSoFar (under l.rules) l.stream l.record-iterator l.biff
