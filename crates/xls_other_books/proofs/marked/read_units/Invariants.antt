use Rattle.std.proofs.Common.{◌≡◌, [], length}
use Rattle.xls_stream.specs.StringTable.{units_at}
use Rattle.xls_stream.proofs.StringUnits.{UnitsSoFar}
use Rattle.xls_other_books.proofs.marked.read_units.Given as goal

abbrev pub invariant-units : goal.invariant-units
invariant-units l = record {
  units : UnitsSoFar (units_at l.count l.wide l.fn.text.marks) [] l.units.items l.left l.is_wide l.text.marks;
  kept : l.text.behind ≡ l.fn.text.behind;
}

abbrev pub decreases-units : goal.decreases-units
decreases-units l = length l.text.marks
