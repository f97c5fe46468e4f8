use Rattle.std.proofs.Common.{◌≡◌, map, None}
use Rattle.xls_style_cells.specs.Cells.{cell_position}
use Rattle.xls_style_cells.specs.Order.{ascends}
use Rattle.xls_style_cells.proofs.ascent.is_ascending.Given as goal

-- the cells that are left ascend behind the last one, or the cells don't ascend
abbrev pub invariant-cells : goal.invariant-cells
invariant-cells l =
    (goal.iterator-cells).can_next l.cell-iterator ×
    (goal.iterator-cells).is_finite l.cell-iterator ×
    (ascends None (map cell_position l.fn.cells) ≡ ascends l.last (map cell_position l.cell-iterator))
