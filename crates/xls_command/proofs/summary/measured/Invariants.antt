use Rattle.std.proofs.Common.{length}
use Rattle.xls_data.specs.Data.{is_nothing}
use Rattle.xls_range.specs.Lists.{used}
use Rattle.xls_command.specs.Sample.{used_in}
use Rattle.xls_command.proofs.CountLemmas.{SoFar}
use Rattle.xls_command.proofs.summary.measured.Given as goal

-- the cells so far are counted and summed, and the others are left
abbrev pub invariant-loop-cell : goal.invariant-loop-cell
invariant-loop-cell l =
    SoFar (used_in is_nothing l.range) (used is_nothing l.cell-iterator) l.cells l.sum

-- each turn takes a cell
abbrev pub decreases-loop-cell : goal.decreases-loop-cell
decreases-loop-cell l = length l.cell-iterator
