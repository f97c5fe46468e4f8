use Rattle.std.proofs.Common.{refl, arith}
use Rattle.std.proofs.lemmas.Float.{not_nan_f64_bits}
use Rattle.xls_decimals.proofs.FiniteLemmas.{finite_from_exponent}
use Rattle.xls_decimals.proofs.decimals.finite_of.Goals as goal

pub float_from_bits-result : goal.float_from_bits-result
float_from_bits-result c = not_nan_f64_bits c.args.bits (omega arith)

pub returns : goal.returns
returns c = (refl, finite_from_exponent c.args.bits (omega arith), omega arith)
