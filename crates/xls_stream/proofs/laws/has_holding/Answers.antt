use Rattle.xls_stream.proofs.HoldingLemmas as holding
use Rattle.xls_stream.proofs.laws.has_holding.Goals as goal

pub returns : goal.returns
returns c = holding.has_holds
