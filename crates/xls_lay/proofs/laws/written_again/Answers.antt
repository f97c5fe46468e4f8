use Rattle.xls_lay.proofs.LawLemmas.{written_again}
use Rattle.xls_lay.proofs.laws.written_again.Goals as goal

pub returns : goal.returns
returns c = written_again
