use Rattle.std.proofs.Common.{rules}
use Rattle.xls_range.proofs.SparseLemmas.{IsBlankBox-filled, IsBlankBox-inside}
use Rattle.xls_range.proofs.range.Range.filled.Goals as goal

pub place-requires-clause-inside : goal.place-requires-clause-inside
place-requires-clause-inside g c = IsBlankBox-inside g.T.CellType.blank_test c.args.cells.now c.args.self c.requires

pub returns-clause-dense : goal.returns-clause-dense
returns-clause-dense g c =
    IsBlankBox-filled g.T.PartialEq.eq g.T.CellType.blank_test c.args.cells.now c.args.self c.place.new.self c.requires c.place.ensures.same (search rules)
