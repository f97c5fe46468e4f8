use Rattle.std.proofs.Common.{◌≡◌, length, map, Some, None}
use Rattle.xls_range.specs.Positions.{cell_position}
use Rattle.xls_style_cells.specs.Order.{ascends}
use Rattle.xls_formula_cells.specs.Formulas.{entry_of}
use Rattle.xls_formula_cells.proofs.ascent.is_ascending.Given as goal

-- the cells that are left ascend behind the last one, or the cells don't ascend
abbrev pub invariant-formulas : goal.invariant-formulas
invariant-formulas l =
    ascends None (map cell_position l.fn.formulas) ≡ ascends (Some (entry_of l.last).0) (map cell_position l.left)

abbrev pub decreases-formulas : goal.decreases-formulas
decreases-formulas l = length l.left
