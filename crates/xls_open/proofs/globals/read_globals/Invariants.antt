use Rattle.xls_open.proofs.GlobalsLemmas.{GlobalsSoFar}
use Rattle.xls_open.specs.Workbook.{rules_of}
use Rattle.xls_open.proofs.globals.read_globals.Given as goal

abbrev pub invariant-loop-record : goal.invariant-loop-record
invariant-loop-record l =
    (goal.iterator-loop-record).can_next l.record-iterator ×
    (goal.iterator-loop-record).is_finite l.record-iterator ×
    GlobalsSoFar (rules_of l.options) l.stream l.record-iterator l.globals
