use Rattle.xls_open.proofs.LaidLemmas.{laid_opens}
use Rattle.xls_open.proofs.laws.laid_opens.Goals as goal

pub returns : goal.returns
returns c = laid_opens
