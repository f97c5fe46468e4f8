use Rattle.std.proofs.Common.{arith}
use Rattle.std.proofs.lemmas.Grind.{common_steps}
use Rattle.xls_open.proofs.classes.put.Goals as goal

pub returns : goal.returns
returns c = λ q. grind (arith, common_steps)
