use Rattle.std.proofs.Common.{◌≡◌, ◌++◌, ℕ, List, map}
use Rattle.xls_view.specs.SheetContents.{kept_in}
use Rattle.xls_view.specs.Formats.{formatted_after, last_formula, no_formula}
use Rattle.xls_view.specs.Placed.{cell_placed}
use Rattle.xls_view.specs.Walking.{IsSoundPart}
use Rattle.xls_view.proofs.formatted.places_of.Given as goal

-- what is left is a tail of the part, and the cells of the others have their places
abbrev pub invariant-loop-item : goal.invariant-loop-item
invariant-loop-item l =
    (goal.iterator-loop-item).can_next l.item-iterator ×
    (goal.iterator-loop-item).is_finite l.item-iterator ×
    IsSoundPart l.settings l.item-iterator ×
    ((prefix : List ℕ) × (l.part ≡ prefix ++ l.item-iterator.0)) ×
    (formatted_after l.settings no_formula (kept_in l.part 0)
    ≡ map (cell_placed l.settings l.part) l.places ++ formatted_after l.settings (last_formula l.last) (kept_in l.item-iterator.0 l.item-iterator.1))
