use Rattle.std.proofs.Common.{arith, refl, ap, ◌≡◌, ℕ, ◌+◌, ◌-◌, ◌*◌, List}
use Rattle.xls_range.specs.Grid.{Grid, part_written}
use Rattle.xls_range.proofs.range.Range.row_mut.Goals as goal

pub returns : goal.returns
returns g c =
    let from = c.args.i * c.self.inside.columns in
    let e : c.args.i * c.self.inside.columns + c.self.inside.columns - c.args.i * c.self.inside.columns ≡ c.self.inside.columns = omega arith in
    let value = rw e at c.slice_mut.ensures.value in
    let cells = c.self.inside.cells.items in
    let grid : ℕ → List g.row.T.Denot → Grid g.row.T.Denot = λ n w. record { top = c.self.inside.top; left = c.self.inside.left; height = c.self.inside.rows; width = c.self.inside.columns; cells = part_written n cells from w } in (
      (refl, λ w. rw (← c.self.view_is) (ap (λ n. grid n w) c.self.inside.cells.ok.0)),
      record { writes_back = tt; value = rw (← c.self.view_is) value },
    )
