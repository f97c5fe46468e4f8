use Rattle.std.proofs.Common.{◌≡◌, ◌++◌, ℕ, List, map}
use Rattle.xls_stream.specs.Walks.{IsBytes}
use Rattle.xls_view.specs.SheetContents.{kept_in}
use Rattle.xls_view.specs.Formulas.{formulas_kept}
use Rattle.xls_view.specs.Placed.{formula_placed}
use Rattle.xls_view.proofs.formulas.places_of.Given as goal

-- what is left is a tail of the part, and the others have their places
abbrev pub invariant-loop-item : goal.invariant-loop-item
invariant-loop-item l =
    (goal.iterator-loop-item).can_next l.item-iterator ×
    (goal.iterator-loop-item).is_finite l.item-iterator ×
    IsBytes l.item-iterator.0 ×
    ((prefix : List ℕ) × (l.part ≡ prefix ++ l.item-iterator.0)) ×
    (formulas_kept (kept_in l.part 0) ≡ map (formula_placed l.part) l.places ++ formulas_kept (kept_in l.item-iterator.0 l.item-iterator.1))
