use Rattle.xls_open.proofs.LaidLemmas.{laid_checks}
use Rattle.xls_open.proofs.laws.laid_checks.Goals as goal

pub returns : goal.returns
returns c = laid_checks
