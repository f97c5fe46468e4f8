use Rattle.xls_lay.proofs.LawLemmas.{opens_again}
use Rattle.xls_lay.proofs.laws.opens_again.Goals as goal

pub returns : goal.returns
returns c = opens_again
