use Rattle.std.proofs.Common.{◌^◌, ◌≤◌, arith, sym}
use Rattle.xls_rounding.proofs.PlaceLemmas.{ten_pos, ten_le, over_none}
use Rattle.xls_rounding.proofs.decimals.over_ten_to.Goals as goal

pub returns-then-s-gt29 : goal.returns-then-s-gt29
returns-then-s-gt29 c =
    let far : 10 ^ 30 ≤ 10 ^ c.args.s = ten_le 30 c.args.s (omega arith) in
    sym (over_none c.args.n (10 ^ c.args.s) (omega arith))

pub pow-step-requires : goal.pow-step-requires
pow-step-requires c =
    let near : 10 ^ c.args.s ≤ 10 ^ 29 = ten_le c.args.s 29 (omega arith) in
    omega arith

pub overflow_add-result : goal.overflow_add-result
overflow_add-result c =
    let near : 10 ^ c.args.s ≤ 10 ^ 29 = ten_le c.args.s 29 (omega arith) in
    grind arith

pub overflow_mul-result-2 : goal.overflow_mul-result-2
overflow_mul-result-2 c =
    let near : 10 ^ c.args.s ≤ 10 ^ 29 = ten_le c.args.s 29 (omega arith) in
    grind arith

pub nonzero_div-result : goal.nonzero_div-result
nonzero_div-result c =
    let some = ten_pos c.args.s in
    omega arith
