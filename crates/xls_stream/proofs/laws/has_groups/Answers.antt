use Rattle.xls_stream.proofs.Ends as ends
use Rattle.xls_stream.proofs.laws.has_groups.Goals as goal

pub returns : goal.returns
returns c = ends.has_groups
