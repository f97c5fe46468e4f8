use Rattle.std.proofs.Common.{◌≡◌, ◌+◌, ◌-◌}
use Rattle.xls_csv.specs.Walk.{left_over, no_cell}
use Rattle.xls_csv.proofs.seen.skip_row.Given as goal

-- the cells before this column are passed over
abbrev pub invariant-loop-column : goal.invariant-loop-column
invariant-loop-column l =
    let box = l.fn.extent in
    left_over no_cell l.row l.column (box.left + box.width - l.column) l.cells ≡ left_over no_cell l.row box.left box.width l.fn.cells
