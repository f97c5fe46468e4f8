use Rattle.std.proofs.Common.{rules, ◌<◌, ◌≤◌, ◌*◌, ◌-◌, ◌^◌, arith}
use Rattle.std.proofs.lemmas.Nat.{one_shl, mul-le}
use Rattle.std.proofs.Math.Pow.{pow_mono}
use Rattle.xls_bytes.proofs.QuotientLemmas.{quotient_low, quotient_between, quotient_between_below, quotient_above, quotient_high}
use Rattle.xls_bytes.proofs.doubles.capped_quotient.Goals as goal

pub returns-then-exponent-lt1023 : goal.returns-then-exponent-lt1023
returns-then-exponent-lt1023 c =
    rw (quotient_low c.args.exponent c.args.fraction c.args.over c.if-exponent-lt1023.true c.requires.fraction c.requires.over) (omega arith)

pub overflow_mul-result : goal.overflow_mul-result
overflow_mul-result c =
    let shl = one_shl (1075 - c.args.exponent) 64 (omega arith) in
    let step : 2 ^ (1075 - c.args.exponent) ≤ 2 ^ 52 = pow_mono {i = 1075 - c.args.exponent} {j = 52} (omega arith) in
    let over : c.args.over < 2 ^ 8 = search rules in
    let product : c.args.over * 2 ^ (1075 - c.args.exponent) ≤ 2 ^ 8 * 2 ^ 52 = mul-le c.args.over (2 ^ (1075 - c.args.exponent)) (2 ^ 8) (2 ^ 52) (omega arith) step in
    rw shl (search (rules, product))

pub returns-then-exponent-le1075 : goal.returns-then-exponent-le1075
returns-then-exponent-le1075 c =
    let shl = one_shl (1075 - c.args.exponent) 64 (omega arith) in
    let is = quotient_between c.args.exponent c.args.fraction c.args.over c.if-exponent-lt1023.false c.if-exponent-le1075.true c.requires.fraction in
    let below = quotient_between_below c.args.fraction c.args.over (1075 - c.args.exponent) c.requires.fraction in
    rw (shl, is) (omega (arith, below))

pub returns-then-exponent-gt1139 : goal.returns-then-exponent-gt1139
returns-then-exponent-gt1139 c =
    let over : c.args.over < 2 ^ 8 = search rules in
    let far = quotient_high c.args.exponent c.args.fraction c.args.over c.if-exponent-gt1139.true over c.requires.over in
    omega (arith, far)

pub returns : goal.returns
returns c =
    let is = quotient_above c.args.exponent c.args.fraction c.args.over c.if-exponent-le1075.false in
    let shl = one_shl (c.args.exponent - 1075) 128 (omega arith) in
    rw is (rw shl at c.min.ensures)
