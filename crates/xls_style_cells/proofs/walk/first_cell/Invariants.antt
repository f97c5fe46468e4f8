use Rattle.std.proofs.Common.{◌≡◌, []}
use Rattle.xls_style_cells.specs.Cells.{cells_in}
use Rattle.xls_style_cells.proofs.walk.first_cell.Given as goal

-- the records that were passed have no cells
abbrev pub invariant-records : goal.invariant-records
invariant-records l =
    (goal.iterator-records).can_next l.records ×
    (goal.iterator-records).is_finite l.records ×
    (l.cells ≡ []) ×
    (cells_in l.version l.fn.records ≡ cells_in l.version l.records)
