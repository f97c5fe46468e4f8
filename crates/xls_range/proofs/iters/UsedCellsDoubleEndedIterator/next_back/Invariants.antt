use Rattle.std.proofs.Common.{◌≡◌, length}
use Rattle.xls_range.specs.Lists.{used, last_used}
use Rattle.xls_range.proofs.iters.UsedCellsDoubleEndedIterator.next_back.Given as goal

-- the used cells that are left are those of the start, and so is the one that comes next
abbrev pub invariant-loop-cell : goal.invariant-loop-cell
invariant-loop-cell g l =
    (used g.T.CellType.blank_test l.self-inside.cells
    ≡ used g.T.CellType.blank_test l.initial.self-inside.cells)
    × (last_used g.T.CellType.blank_test l.self-inside.cells
    ≡ last_used g.T.CellType.blank_test l.initial.self-inside.cells)

abbrev pub decreases-loop-cell : goal.decreases-loop-cell
decreases-loop-cell g l = length l.self-inside.cells
