use Rattle.std.proofs.Common.{arith}
use Rattle.xls_rounding.proofs.PlaceLemmas.{far_up}
use Rattle.xls_rounding.proofs.decimals.times_ten_to.Goals as goal

pub returns-then-z-gt19 : goal.returns-then-z-gt19
returns-then-z-gt19 c = far_up c.args.n c.args.z (omega arith) c.if-z-gt19.true
