use Rattle.xls_stream.proofs.Total.{no_others}
use Rattle.xls_stream.proofs.laws.one_run.Goals as goal

pub returns : goal.returns
returns c = no_others
