use Rattle.std.proofs.Common.{◌-◌, ◌%◌, ◌==◌, arith, ap, ◌∙◌}
use Rattle.xls_rounding.proofs.PlaceLemmas.{ten_pos, ten_le}
use Rattle.xls_shown_numbers.proofs.NumberLemmas.{zeros_within, zeros_beyond, zeros_far}
use Rattle.xls_shown_numbers.proofs.number.ends_in_zeros.Goals as goal

pub returns-then-k-n : goal.returns-then-k-n
returns-then-k-n c = zeros_within c.args.n.digits c.args.n.zeros c.args.k (omega (arith, c.if-k-n.true))

pub returns-then-k-n-gt38 : goal.returns-then-k-n-gt38
returns-then-k-n-gt38 c = zeros_far c.args.n.digits c.args.n.zeros c.args.k (omega arith) (omega arith) (omega arith)

pub nonzero_rem-result : goal.nonzero_rem-result
nonzero_rem-result c = let some = ten_pos (c.args.k - c.args.n.zeros) in omega arith

pub returns : goal.returns
returns c =
    ap (λ t. c.args.n.digits % t == 0) c.pow.ensures ∙ zeros_beyond c.args.n.digits c.args.n.zeros c.args.k (omega arith)

pub pow-requires : goal.pow-requires
pow-requires c = let most = ten_le (c.args.k - c.args.n.zeros) 38 (omega arith) in omega (arith, most)
