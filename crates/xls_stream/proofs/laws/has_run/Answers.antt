use Rattle.xls_stream.proofs.Total.{runs}
use Rattle.xls_stream.proofs.laws.has_run.Goals as goal

pub returns : goal.returns
returns c = runs
