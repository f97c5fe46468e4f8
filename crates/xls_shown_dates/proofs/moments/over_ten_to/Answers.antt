use Rattle.std.proofs.Common.{arith, sym}
use Rattle.xls_shown_dates.proofs.TimeLemmas.{ten_pos, none_left}
use Rattle.xls_shown_dates.proofs.moments.over_ten_to.Goals as goal

pub returns-then-s-gt19 : goal.returns-then-s-gt19
returns-then-s-gt19 c = sym (none_left c.args.n c.args.s (omega arith) c.if-s-gt19.true)

pub nonzero_div-result : goal.nonzero_div-result
nonzero_div-result c = let some = ten_pos c.args.s in omega arith
