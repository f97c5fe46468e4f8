use Rattle.xls_open.specs.CheckSteps.{under, settings_checked, AreChecked}
use Rattle.xls_open.proofs.CheckLemmas.{SheetsSoFar}
use Rattle.xls_open.proofs.check.sheets.check_sheets.Given as goal

abbrev pub invariant-loop-record : goal.invariant-loop-record
invariant-loop-record l =
    (goal.iterator-loop-record).can_next l.record-iterator ×
    (goal.iterator-loop-record).is_finite l.record-iterator ×
    ((a : AreChecked (under l.rules) l.stream l.biff) → SheetsSoFar (under l.rules) l.stream l.record-iterator (settings_checked (under l.rules) a.items))
