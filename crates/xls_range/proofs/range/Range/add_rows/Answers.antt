use Rattle.std.proofs.Common.{rules, ◌≡◌, ◌-◌, ◌*◌, length}
use Rattle.xls_range.specs.Grid.{AddsBlanks}
use Rattle.xls_range.proofs.BlankLemmas.{Grows-down}
use Rattle.xls_range.proofs.range.Range.add_rows.Goals as goal

pub returns-clause-ok : goal.returns-clause-ok
returns-clause-ok g c =
    let added : AddsBlanks g.T.CellType.blank_test (c.in-Some.size - c.len.result) c.self.inside.cells.items c.push_blanks.new.cells.items = search rules in
    let more : c.in-Some.size - c.len.result ≡ c.args.rows * c.self.inside.columns - length c.self.inside.cells.items = search rules in
    let low = rw (← c.self.view_is) at c.requires.rows in
    rw (← c.self.view_is) (Grows-down g.T.CellType.blank_test c.self.inside.top c.self.inside.left c.self.inside.rows c.self.inside.columns c.args.rows c.self.inside.cells.items c.push_blanks.new.cells.items low c.self.invariant.count (rw more at added))
