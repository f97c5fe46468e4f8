use Rattle.xls_stream.proofs.Ends as ends
use Rattle.xls_stream.proofs.laws.one_groups.Goals as goal

pub returns : goal.returns
returns c = ends.one_groups
