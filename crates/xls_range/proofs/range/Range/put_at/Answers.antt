use Rattle.xls_range.specs.Grid.{Grid}
use Rattle.xls_range.proofs.GrowthLemmas.{cell_at-written}
use Rattle.xls_range.proofs.range.Range.put_at.Goals as goal

pub returns-clause-written : goal.returns-clause-written
returns-clause-written g c r k =
    let old : Grid g.row.T.Denot = record { top = c.self.inside.top; left = c.self.inside.left; height = c.self.inside.rows; width = c.self.inside.columns; cells = c.self.inside.cells.items } in
    let within = rw (← c.self.view_is) at c.requires in
    rw (c.put.ensures, ← c.self.view_is) (cell_at-written old c.args.position.0 c.args.position.1 c.args.value c.self.invariant.count within r k)
