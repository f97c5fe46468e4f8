use Rattle.std.proofs.Common.{◌≡◌, length}
use Rattle.xls_shared_formulas.specs.Found.{lines_from}
use Rattle.xls_shared_formulas.proofs.sheet.RangeLinesIterator.next.Given as goal

abbrev pub invariant-formulas : goal.invariant-formulas
invariant-formulas l =
    lines_from l.self-inside.known.now l.self-inside.walk ≡ lines_from l.initial.self-inside.known.now l.initial.self-inside.walk

abbrev pub decreases-formulas : goal.decreases-formulas
decreases-formulas l = length l.self-inside.walk
