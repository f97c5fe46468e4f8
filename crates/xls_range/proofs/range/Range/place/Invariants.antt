use Rattle.std.proofs.Common.{take}
use Rattle.xls_range.specs.Grid.{IsSameBox, Shows}
use Rattle.xls_range.specs.Sparse.{last_at}
use Rattle.xls_range.proofs.range.Range.place.Given as goal

abbrev pub invariant-loop-cell : goal.invariant-loop-cell
invariant-loop-cell g l = record {
  same : IsSameBox l.fn.self l.self;
  shows : Shows g.T.PartialEq.eq g.T.CellType.blank_test (λ row column. last_at (take l.cell-index l.cells) (row, column)) l.self;
}
