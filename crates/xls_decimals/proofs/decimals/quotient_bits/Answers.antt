use Rattle.std.proofs.Common.{arith}
use Rattle.std.proofs.lemmas.Float.{not_nan_f64_bits}
use Rattle.xls_decimals.proofs.FiniteLemmas.{infinite_over_100}
use Rattle.xls_decimals.proofs.decimals.quotient_bits.Goals as goal

pub float_from_bits-quotient : goal.float_from_bits-quotient
float_from_bits-quotient c = not_nan_f64_bits 0x4059_0000_0000_0000 (omega arith)

pub returns-in_err-quotient : goal.returns-in_err-quotient
returns-in_err-quotient c = rw c.from_residual.ensures (infinite_over_100 c.args.bits c.in_err-quotient.ensures)
