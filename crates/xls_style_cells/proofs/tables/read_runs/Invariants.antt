use Rattle.std.proofs.Common.{◌-◌, ◌≤◌, ◌^◌}
use Rattle.std.specs.BTreeMap.{get}
use Rattle.std.specs.Ordering.{nat_cmp}
use Rattle.xls_style_cells.specs.Walking.{AreKept}
use Rattle.xls_style_cells.proofs.tables.read_runs.Given as goal

abbrev pub invariant-strings : goal.invariant-strings
invariant-strings l = (l.index ≤ 2 ^ 32) × AreKept l.table l.text l.index (get nat_cmp l.places)

abbrev pub decreases-strings : goal.decreases-strings
decreases-strings l = 2 ^ 32 - l.index
