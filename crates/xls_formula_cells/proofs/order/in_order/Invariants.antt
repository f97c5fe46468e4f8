use Rattle.std.proofs.Common.{◌≡◌, ◌++◌}
use Rattle.std.specs.List.{AllByRecursion}
use Rattle.xls_formula_cells.specs.Held.{IsSmall}
use Rattle.xls_formula_cells.proofs.order.in_order.Given as goal

-- the formulas so far, and those that are left
abbrev pub invariant-formulas : goal.invariant-formulas
invariant-formulas l =
    (goal.iterator-formulas).can_next l.place-iterator ×
    (goal.iterator-formulas).is_finite l.place-iterator ×
    (l.found ++ l.place-iterator ≡ l.fn.formulas) ×
    AllByRecursion IsSmall l.found
