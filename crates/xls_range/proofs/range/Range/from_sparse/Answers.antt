use Rattle.std.proofs.Common.{rules, arith, [], ◌≡◌, ◌≤◌, ◌*◌, ◌^◌}
use Rattle.xls_range.proofs.SparseLemmas.{IsDense-nil, IsTooLarge-within}
use Rattle.xls_range.proofs.range.Range.from_sparse.Goals as goal

pub returns-in-Err-clause-fits : goal.returns-in-Err-clause-fits
returns-in-Err-clause-fits g c rows columns below small e =
    let large : 2 ^ 64 ≤ rows * columns = IsTooLarge-within c.args.cells.items rows columns below ((rw c.as_slice.ensures.value at c.in-Err.ensures.too_large).0 cc) in
    omega arith

pub returns-in-Ok-Some-clause-too_large : goal.returns-in-Ok-Some-clause-too_large
returns-in-Ok-Some-clause-too_large g c =
    let input = rw c.as_slice.ensures.value at c.in-Ok-Some.ensures.too_large in
    (λ e. absurd cc, λ large. absurd (let e = input.1 large in cc))

pub returns-in-Ok-None-clause-dense : goal.returns-in-Ok-None-clause-dense
returns-in-Ok-None-clause-dense g c =
    let none : c.args.cells.items ≡ [] = search rules in
    rw (none, c.empty.ensures) (IsDense-nil g.T.PartialEq.eq g.T.CellType.blank_test)
