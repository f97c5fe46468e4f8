use Rattle.xls_passwords.proofs.LawLemmas.{keeps_records}
use Rattle.xls_passwords.proofs.laws.keeps_records.Goals as goal

pub returns : goal.returns
returns c = keeps_records
