use Rattle.std.proofs.Common.{arith}
use Rattle.xls_dates.proofs.BuiltinLemmas.{class_of_id-decimal}
use Rattle.xls_dates.proofs.laws.class_of_decimal_text.Goals as goal

pub returns : goal.returns
returns c = λ n small. class_of_id-decimal n (omega arith)
