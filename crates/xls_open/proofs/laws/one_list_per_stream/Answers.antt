use Rattle.xls_open.proofs.LaidLemmas.{one_list_per_stream}
use Rattle.xls_open.proofs.laws.one_list_per_stream.Goals as goal

pub returns : goal.returns
returns c = one_list_per_stream
