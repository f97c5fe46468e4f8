use Rattle.std.proofs.Common.{◌≡◌, ◌++◌}
use Rattle.xls_shared_formulas.specs.Found.{formulas_of, tables_of}
use Rattle.xls_shared_formulas.proofs.sheet.read_sorts.Given as goal

abbrev pub invariant-formulas : goal.invariant-formulas
invariant-formulas l =
    (goal.iterator-formulas).can_next l.formula-iterator ×
    (goal.iterator-formulas).is_finite l.formula-iterator ×
    (l.formulas.items ++ formulas_of l.formula-iterator ≡ formulas_of l.fn.walk) ×
    (l.tables.items ++ tables_of l.formula-iterator ≡ tables_of l.fn.walk)
