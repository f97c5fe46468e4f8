use Rattle.std.proofs.Common.{◌≡◌}
use Rattle.xls_open.specs.CheckSteps.{under}
use Rattle.xls_open.proofs.CheckPartLemmas.{CheckedPart}
use Rattle.xls_open.proofs.check.sheets.check_part.Given as goal
use Rattle.xls_meaning.specs.Settings.{Settings}

abbrev pub invariant-loop-record : goal.invariant-loop-record
invariant-loop-record l =
    (goal.iterator-loop-record).can_next l.record-iterator ×
    (goal.iterator-loop-record).is_finite l.record-iterator ×
    ((s : Settings) → s.cells.version ≡ l.biff → CheckedPart l.part l.record-iterator.0 l.record-iterator.1 (under l.rules) s l.room)
