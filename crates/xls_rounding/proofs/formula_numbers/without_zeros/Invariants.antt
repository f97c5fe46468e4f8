use Rattle.std.proofs.Common.{◌≡◌, ◌<◌, ◌≤◌}
use Rattle.std.specs.Fmt.{decimal}
use Rattle.xls_rounding.specs.FormulaNumbers.{without_zeros}
use Rattle.xls_rounding.proofs.formula_numbers.without_zeros.Given as goal

abbrev pub invariant-loop-rest : goal.invariant-loop-rest
invariant-loop-rest l = (0 < l.rest) × (l.rest ≤ l.n) × (without_zeros (decimal l.rest) ≡ without_zeros (decimal l.n))

abbrev pub decreases-loop-rest : goal.decreases-loop-rest
decreases-loop-rest l = l.rest
