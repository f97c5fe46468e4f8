use Rattle.std.specs.Vec.Iter.{into_iter_items}
use Rattle.xls_range.proofs.SparseLemmas.{Holds}
use Rattle.xls_range.proofs.range.Range.put_all.Given as goal

-- the cells before those that are left stand in the box
abbrev pub invariant-loop-cell : goal.invariant-loop-cell
invariant-loop-cell g l =
    Holds g.T.PartialEq.eq g.T.CellType.blank_test l.fn.cells.items (into_iter_items l.cell-iterator) l.fn.self l.self
