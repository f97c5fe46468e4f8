use Rattle.std.proofs.Common.{◌≡◌, ◌++◌}
use Rattle.std.specs.Vec.Iter.{into_iter_items}
use Rattle.xls_range.proofs.sorted.in_input_order.Given as goal

-- the cells so far, and those to come
abbrev pub invariant-loop-cell : goal.invariant-loop-cell
invariant-loop-cell g l = l.input ++ into_iter_items l.cell-iterator ≡ l.fn.cells.items
