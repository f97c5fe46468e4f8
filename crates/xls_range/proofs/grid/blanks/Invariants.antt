use Rattle.xls_range.specs.Grid.{AreBlank}
use Rattle.xls_range.proofs.grid.blanks.Given as goal

abbrev pub invariant-loop-i : goal.invariant-loop-i
invariant-loop-i g l = AreBlank g.T.CellType.blank_test l._i l.cells.items
