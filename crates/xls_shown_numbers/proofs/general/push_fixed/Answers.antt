use Rattle.std.proofs.Common.{arith}
use Rattle.xls_rounding.proofs.PlaceLemmas.{ten_pos}
use Rattle.xls_shown_numbers.proofs.general.push_fixed.Goals as goal

pub nonzero_div-n : goal.nonzero_div-n
nonzero_div-n c = let some = ten_pos c.args.p in omega arith
