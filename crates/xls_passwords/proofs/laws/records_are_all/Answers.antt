use Rattle.xls_passwords.proofs.LawLemmas.{records_are_all}
use Rattle.xls_passwords.proofs.laws.records_are_all.Goals as goal

pub returns : goal.returns
returns c = records_are_all
