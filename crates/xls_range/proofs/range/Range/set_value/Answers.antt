use Rattle.std.proofs.Common.{arith, ◌≤◌}
use Rattle.xls_range.proofs.GrowthLemmas.{sets_from, same_grid}
use Rattle.xls_range.specs.Grid.{Grid}
use Rattle.xls_range.proofs.range.Range.set_value.Goals as goal
use Rattle.xls_range.proofs.range.Range.set_value.Goals.{else-self-gt0-via-then-self-gt0+else-column-self, then-row-self, else-row-self, else-self-gt0-via-else-self-gt0}

pub returns-clause-ok : goal.returns-clause-ok
returns-clause-ok g c =
    let old : Grid g.row.T.Denot = record { top = c.self.inside.top; left = c.self.inside.left; height = c.self.inside.rows; width = c.self.inside.columns; cells = c.self.inside.cells.items } in
    let tp : old.top ≤ c.args.absolute_position.0 = grind arith in
    let lp : old.left ≤ c.args.absolute_position.1 = grind arith in
    let k = rw (← c.self.view_is) at c.in_ok-grow.ensures.ok in
    rw (c.put.ensures, ← c.self.view_is) (sets_from g.T.CellType.blank_test old c.grow.new.self.cells c.args.absolute_position.0 c.args.absolute_position.1 c.max-rows.result c.max-columns.result c.args.value
    c.self.invariant.count tp lp c.max-rows.ensures c.max-columns.ensures c.grow.new.self (same_grid c.grow.new.self _ _ _ _ k.top k.left k.height k.width) k)
