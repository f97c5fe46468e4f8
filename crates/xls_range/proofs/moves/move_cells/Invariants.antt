use Rattle.std.proofs.Common.{◌≡◌, vec_len}
use Rattle.xls_range.specs.Moves.{IsMoved, IsLeft, LeavesOthers}
use Rattle.xls_range.proofs.moves.move_cells.Given as goal

abbrev pub invariant-loop-row : goal.invariant-loop-row
invariant-loop-row g l = record {
  moved : IsMoved l.columns l.wide l.row 0 l.fn.cells.items l.grown.items;
  left : IsLeft l.rows l.columns l.row 0 l.fn.cells.items l.cells.items;
  others : LeavesOthers l.rows l.columns l.wide l.fn.grown.items l.grown.items;
  len : vec_len l.grown ≡ vec_len l.fn.grown;
  cells_len : vec_len l.cells ≡ vec_len l.fn.cells;
}

abbrev pub invariant-loop-column : goal.invariant-loop-column
invariant-loop-column g l = record {
  moved : IsMoved l.columns l.wide l.row l.column l.fn.cells.items l.grown.items;
  left : IsLeft l.rows l.columns l.row l.column l.fn.cells.items l.cells.items;
  others : LeavesOthers l.rows l.columns l.wide l.fn.grown.items l.grown.items;
  len : vec_len l.grown ≡ vec_len l.fn.grown;
  cells_len : vec_len l.cells ≡ vec_len l.fn.cells;
}
