use Rattle.xls_range.specs.Lists.{used}
use Rattle.xls_range.proofs.CallLemmas.{each_once}
use Rattle.xls_range.proofs.laws.each_once.Goals as goal

pub returns-clause-rows : goal.returns-clause-rows
returns-clause-rows g c = each_once (λ row. row.now) (λ rows. rows)

pub returns-clause-cells : goal.returns-clause-cells
returns-clause-cells g c = each_once (λ cell. (cell.0, cell.1, cell.2.now)) (λ cells. cells)

pub returns-clause-used : goal.returns-clause-used
returns-clause-used g c =
    each_once (λ cell. (cell.0, cell.1, cell.2.now)) (used g.T.CellType.blank_test)
