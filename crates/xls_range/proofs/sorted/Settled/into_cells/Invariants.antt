use Rattle.std.proofs.Common.{◌≡◌, ◌++◌, map}
use Rattle.std.specs.Vec.Iter.{into_iter_items}
use Rattle.xls_range.specs.Positions.{numbered_entry}
use Rattle.xls_range.proofs.sorted.Settled.into_cells.Given as goal

-- the cells so far, and those to come
abbrev pub invariant-loop-each : goal.invariant-loop-each
invariant-loop-each g l = l.cells.items ++ map numbered_entry (into_iter_items l.each-iterator) ≡ l.fn.self
