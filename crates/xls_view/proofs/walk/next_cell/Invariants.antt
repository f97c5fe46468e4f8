use Rattle.std.proofs.Common.{◌≡◌, []}
use Rattle.xls_view.specs.SheetContents.{kept_in}
use Rattle.xls_view.specs.Formats.{formatted_after, last_formula}
use Rattle.xls_view.specs.Walking.{IsSoundPart}
use Rattle.xls_view.proofs.walk.next_cell.Given as goal

-- the records that were passed have no cells
abbrev pub invariant-loop-item : goal.invariant-loop-item
invariant-loop-item l =
    (goal.iterator-loop-item).can_next l.records ×
    (goal.iterator-loop-item).is_finite l.records ×
    IsSoundPart l.settings l.records × (l.run ≡ []) ×
    (formatted_after l.settings (last_formula l.fn.last) (kept_in l.fn.records.0 l.fn.records.1)
    ≡ formatted_after l.settings (last_formula l.last) (kept_in l.records.0 l.records.1))
