use Rattle.std.proofs.Common.{◌+◌, ◌-◌, ◌/◌, ◌%◌, arith, ap, ◌∙◌}
use Rattle.xls_rounding.proofs.PlaceLemmas.{ten_pos, ten_le}
use Rattle.xls_shown_numbers.proofs.NumberLemmas.{digit_among_zeros, digit_before_zeros, digit_far}
use Rattle.xls_shown_numbers.proofs.number.digit.Goals as goal

pub returns-then-p-n-clause-value : goal.returns-then-p-n-clause-value
returns-then-p-n-clause-value c = digit_among_zeros c.args.n.digits c.args.n.zeros c.args.p (omega (arith, c.if-p-n.true))

pub returns-then-p-n-gt38-clause-value : goal.returns-then-p-n-gt38-clause-value
returns-then-p-n-gt38-clause-value c = digit_far c.args.n.digits c.args.n.zeros c.args.p (omega arith) (omega arith) (omega arith)

pub nonzero_div-result : goal.nonzero_div-result
nonzero_div-result c = let some = ten_pos (c.args.p - c.args.n.zeros) in omega arith

pub returns-clause-value : goal.returns-clause-value
returns-clause-value c =
    ap (λ t. 48 + c.args.n.digits / t % 10) c.pow.ensures ∙ digit_before_zeros c.args.n.digits c.args.n.zeros c.args.p (omega arith)

pub pow-requires : goal.pow-requires
pow-requires c = let most = ten_le (c.args.p - c.args.n.zeros) 38 (omega arith) in omega (arith, most)
