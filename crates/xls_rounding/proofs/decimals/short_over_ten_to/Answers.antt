use Rattle.std.proofs.Common.{◌*◌, ◌/◌, ◌%◌, ◌^◌, ◌≤◌, arith, sym}
use Rattle.std.proofs.Math.Nat.{div-mul-le_self, mul-le-mul_left}
use Rattle.xls_rounding.proofs.PlaceLemmas.{ten_pos, ten_even, over_above}
use Rattle.xls_rounding.proofs.decimals.short_over_ten_to.Goals as goal

pub nonzero_rem-n : goal.nonzero_rem-n
nonzero_rem-n c = let some = ten_pos c.args.s in omega arith

pub nonzero_div-result-else-n-step : goal.nonzero_div-result-else-n-step
nonzero_div-result-else-n-step c = let some = ten_pos c.args.s in omega arith

pub overflow_add-result : goal.overflow_add-result
overflow_add-result c =
    let step = c.pow-step.result in
    let some = ten_pos c.args.s in
    let even = ten_even c.args.s c.requires in
    let two : 2 ≤ step = omega arith in
    let less : c.args.n / step * 2 ≤ c.args.n / step * step = mul-le-mul_left (c.args.n / step) two in
    let back : c.args.n / step * step ≤ c.args.n = div-mul-le_self c.args.n step in
    grind arith

pub returns-else-n-step : goal.returns-else-n-step
returns-else-n-step c =
    let even = ten_even c.args.s c.requires in
    let far = rw c.pow-step.ensures at c.if-n-step.false in
    let half : 10 ^ c.args.s ≤ 2 * (c.args.n % 10 ^ c.args.s) = omega arith in
    rw c.pow-step.ensures (sym (over_above c.args.n (10 ^ c.args.s) (ten_pos c.args.s) half))
