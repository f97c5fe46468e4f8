use Rattle.xls_passwords.proofs.LawLemmas.{xors_back}
use Rattle.xls_passwords.proofs.laws.xors_back.Goals as goal

pub returns : goal.returns
returns c = xors_back
