use Rattle.std.proofs.Common.{◌≡◌, length}
use Rattle.xls_range.specs.Grid.{AddsBlanks}
use Rattle.xls_range.proofs.grid.push_blanks.Given as goal

abbrev pub invariant-loop-i : goal.invariant-loop-i
invariant-loop-i g l = record {
  added : AddsBlanks g.T.CellType.blank_test l._i l.fn.cells.items l.cells.items;
  before : l.before ≡ length l.fn.cells.items;
}
