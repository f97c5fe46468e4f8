use Rattle.xls_passwords.proofs.LawLemmas.{keeps_length}
use Rattle.xls_passwords.proofs.laws.keeps_length.Goals as goal

pub returns : goal.returns
returns c = keeps_length
