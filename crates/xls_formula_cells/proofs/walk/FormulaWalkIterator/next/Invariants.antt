use Rattle.std.proofs.Common.{◌≡◌, length}
use Rattle.xls_formula_cells.specs.Formulas.{formulas_in}
use Rattle.xls_formula_cells.proofs.walk.FormulaWalkIterator.next.Given as goal

-- the records that were passed have no formulas
abbrev pub invariant-records : goal.invariant-records
invariant-records l = formulas_in l.self-inside.records ≡ formulas_in l.initial.self-inside.records

abbrev pub decreases-records : goal.decreases-records
decreases-records l = length l.self-inside.records
