use Rattle.std.proofs.Common.{◌≡◌, ◌++◌, ◌-◌, ◌≤◌, take, length}
use Rattle.xls_comments.specs.Units.{text_units}
use Rattle.xls_comments.specs.Walking.{leading_pieces}
use Rattle.xls_comments.proofs.units.units_of_pieces.Given as goal

abbrev pub invariant-loop-r : goal.invariant-loop-r
invariant-loop-r l =
    (l.units.items ++ take (l.count - length l.units.items) (text_units (leading_pieces l.records)) ≡ take l.count (text_units (leading_pieces l.initial.records)))
    × (length l.units.items ≤ l.count)

abbrev pub decreases-loop-r : goal.decreases-loop-r
decreases-loop-r l = length l.records
