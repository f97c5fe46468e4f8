use Rattle.xls_range.proofs.SparseLemmas.{IsBlankBox-filled, IsBlankBox-inside}
use Rattle.xls_range.proofs.range.Range.holding.Goals as goal

pub put_all-requires-clause-inside : goal.put_all-requires-clause-inside
put_all-requires-clause-inside g c = IsBlankBox-inside g.T.CellType.blank_test c.args.cells.items c.args.self c.requires

pub returns-clause-dense : goal.returns-clause-dense
returns-clause-dense g c =
    IsBlankBox-filled g.T.PartialEq.eq g.T.CellType.blank_test c.args.cells.items c.args.self c.put_all.new.self c.requires c.put_all.ensures.same c.put_all.ensures.shows
