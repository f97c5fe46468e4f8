use Rattle.std.proofs.Common.{◌≡◌}
use Rattle.xls_beside.specs.Damaged.{at_most_counted}
use Rattle.xls_answers.proofs.HiddenLemmas.{CountedSoFar}
use Rattle.xls_answers.proofs.hidden_cells.count_hidden.Given as goal

-- what is counted and what is left are together all
abbrev pub invariant-loop-cell : goal.invariant-loop-cell
invariant-loop-cell l =
    goal.iterator-loop-cell.can_next l.cell-iterator ×
    goal.iterator-loop-cell.is_finite l.cell-iterator ×
    CountedSoFar l.hidden l.fn.cells l.count l.cell-iterator ×
    (at_most_counted l.count ≡ l.count)
