use Rattle.std.proofs.Common.{rules, ◌≡◌, ◌*◌, length, vec_len}
use Rattle.xls_range.specs.Grid.{AreBlank}
use Rattle.xls_range.proofs.GrowthLemmas.{grows_from}
use Rattle.xls_range.proofs.range.Range.widen.Goals as goal

pub returns-clause-ok : goal.returns-clause-ok
returns-clause-ok g c =
    let blank : AreBlank g.T.CellType.blank_test (c.args.rows * c.args.columns) c.in_ok-grown.grown.items = search rules in
    let kept : vec_len c.move_cells.new.grown ≡ vec_len c.in_ok-grown.grown = c.move_cells.ensures.len in
    let filled : length c.in_ok-grown.grown.items ≡ c.args.rows * c.args.columns = blank.number in
    let long : length c.move_cells.new.grown.items ≡ c.args.rows * c.args.columns = search rules in
    let rp = rw (← c.self.view_is) at c.requires.rows in
    let cp = rw (← c.self.view_is) at c.requires.columns in
    rw (← c.self.view_is) (grows_from g.T.CellType.blank_test c.self.inside.top c.self.inside.left c.self.inside.rows c.self.inside.columns c.args.rows c.args.columns c.self.inside.cells.items c.in_ok-grown.grown.items c.move_cells.new.grown.items rp cp blank long c.move_cells.ensures.moved c.move_cells.ensures.others)
