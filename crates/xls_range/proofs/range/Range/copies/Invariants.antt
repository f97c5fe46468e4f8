use Rattle.std.proofs.Common.{◌+◌, ◌*◌}
use Rattle.xls_range.specs.Grid.{cell_at, AreCopies}
use Rattle.xls_range.proofs.range.Range.copies.Given as goal

abbrev pub invariant-loop-row : goal.invariant-loop-row
invariant-loop-row g l = AreCopies g.T.PartialEq.eq g.T.CellType.blank_test (cell_at l.self) l.start l.columns (l.row * l.columns) l.cells.items

abbrev pub invariant-loop-column : goal.invariant-loop-column
invariant-loop-column g l = AreCopies g.T.PartialEq.eq g.T.CellType.blank_test (cell_at l.self) l.start l.columns (l.row * l.columns + l.column) l.cells.items
