use Rattle.std.proofs.Common.{◌≡◌, ◌++◌, map}
use Rattle.xls_open.specs.Workbook.{cell_content}
use Rattle.xls_book.proofs.collect.cells_of.Given as goal

-- the cells so far, and those that are left
abbrev pub invariant-loop-cell : goal.invariant-loop-cell
invariant-loop-cell l =
    (goal.iterator-loop-cell).can_next l.cell-iterator ×
    (goal.iterator-loop-cell).is_finite l.cell-iterator ×
    (map cell_content l.collected.items ++ l.cell-iterator ≡ l.fn.cells)
