use Rattle.std.proofs.Common.{rules, ◌<◌, ◌≤◌, ◌*◌, ◌-◌, ◌^◌, arith, sym}
use Rattle.std.proofs.lemmas.Nat.{one_shl, mul-le}
use Rattle.std.proofs.Math.Pow.{pow_mono}
use Rattle.xls_decimals.proofs.FractionLemmas.{fraction_far, fraction_near}
use Rattle.xls_decimals.proofs.fractions.milliseconds_of_fields.Goals as goal

pub returns-then-exponent-gt1075 : goal.returns-then-exponent-gt1075
returns-then-exponent-gt1075 c =
    let over : c.args.over < 2 ^ 8 = search rules in
    sym (fraction_far c.args.exponent c.args.fraction c.args.over c.if-exponent-gt1075.true c.requires.over over)

pub returns-then-exponent-lt994 : goal.returns-then-exponent-lt994
returns-then-exponent-lt994 c =
    sym (fraction_near c.args.exponent c.args.fraction c.args.over c.if-exponent-lt994.true c.requires.fraction c.requires.over)

pub overflow_mul-over : goal.overflow_mul-over
overflow_mul-over c =
    let shl = one_shl (1075 - c.args.exponent) 128 (omega arith) in
    let step : 2 ^ (1075 - c.args.exponent) ≤ 2 ^ 81 = pow_mono {i = 1075 - c.args.exponent} {j = 81} (omega arith) in
    let over : c.args.over < 2 ^ 8 = search rules in
    let product : c.args.over * 2 ^ (1075 - c.args.exponent) ≤ 2 ^ 8 * 2 ^ 81 = mul-le c.args.over (2 ^
    (1075 - c.args.exponent)) (2 ^ 8) (2 ^ 81) (omega arith) step in
    rw shl (search (rules, product))

pub counted-requires-clause-down : goal.counted-requires-clause-down
counted-requires-clause-down c =
    let shl = one_shl (1075 - c.args.exponent) 128 (omega arith) in
    let step : 2 ^ (1075 - c.args.exponent) ≤ 2 ^ 81 = pow_mono {i = 1075 - c.args.exponent} {j = 81} (omega arith) in
    let over : c.args.over < 2 ^ 8 = search rules in
    let product : c.args.over * 2 ^ (1075 - c.args.exponent) ≤ 2 ^ 8 * 2 ^ 81 = mul-le c.args.over (2 ^
    (1075 - c.args.exponent)) (2 ^ 8) (2 ^ 81) (omega arith) step in
    rw shl (omega (arith, product))
