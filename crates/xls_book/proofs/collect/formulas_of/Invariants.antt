use Rattle.std.proofs.Common.{◌≡◌, ◌++◌, map}
use Rattle.xls_view.specs.Formulas.{text_entry}
use Rattle.xls_open.specs.Workbook.{formula_content}
use Rattle.xls_book.proofs.collect.formulas_of.Given as goal

-- the texts so far, and those of the formulas that are left
abbrev pub invariant-loop-formula : goal.invariant-loop-formula
invariant-loop-formula l =
    (goal.iterator-loop-formula).can_next l.formula-iterator ×
    (goal.iterator-loop-formula).is_finite l.formula-iterator ×
    (map formula_content l.collected.items ++ map (text_entry l.formulas.context) l.formula-iterator
    ≡ map (text_entry l.formulas.context) l.formulas.left)
