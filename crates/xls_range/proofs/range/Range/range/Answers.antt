use Rattle.std.proofs.Common.{rules, ◌*◌}
use Rattle.xls_range.specs.Grid.{cell_at, AreCopies}
use Rattle.xls_range.proofs.CopyLemmas.{Shows-copies}
use Rattle.xls_range.proofs.range.Range.range.Goals as goal

pub returns-clause-cells : goal.returns-clause-cells
returns-clause-cells g c =
    let copies : AreCopies g.T.PartialEq.eq g.T.CellType.blank_test (cell_at c.args.self.now) c.args.start c.in_ok-rows.columns (c.in_ok-rows.rows * c.in_ok-rows.columns) c.in_ok-cells.cells.items = search rules in
    Shows-copies g.T.PartialEq.eq g.T.CellType.blank_test (cell_at c.args.self.now) c.args.start c.in_ok-rows.rows c.in_ok-rows.columns c.in_ok-cells.cells.items copies
