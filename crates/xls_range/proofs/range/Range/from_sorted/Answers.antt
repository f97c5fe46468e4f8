use Rattle.std.proofs.Common.{rules, arith, [], ◌≡◌, ◌≤◌, ◌*◌, ◌^◌}
use Rattle.xls_range.proofs.SparseLemmas.{IsDense-nil, IsTooLarge-within}
use Rattle.xls_range.proofs.range.Range.from_sorted.Goals as goal

pub returns-in-Err-clause-fits : goal.returns-in-Err-clause-fits
returns-in-Err-clause-fits g c rows columns below small e =
    let large : 2 ^ 64 ≤ rows * columns = IsTooLarge-within c.args.cells.now rows columns below (c.in-Err.ensures.too_large.0 cc) in
    omega arith

pub returns-in-Ok-None-clause-dense : goal.returns-in-Ok-None-clause-dense
returns-in-Ok-None-clause-dense g c =
    let none : c.args.cells.now ≡ [] = search rules in
    rw (none, c.empty.ensures) (IsDense-nil g.T.PartialEq.eq g.T.CellType.blank_test)
