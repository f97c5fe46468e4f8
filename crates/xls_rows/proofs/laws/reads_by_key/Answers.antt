use Rattle.xls_rows.proofs.KeyLemmas.{gives_named, named_only}
use Rattle.xls_rows.proofs.laws.reads_by_key.Goals as goal

pub returns : goal.returns
returns g c = λ empty row ps. (λ h. named_only empty row ps h, λ e. gives_named empty row ps e)
