use Rattle.xls_stream.proofs.HoldingLemmas as holding
use Rattle.xls_stream.proofs.laws.one_holding.Goals as goal

pub returns : goal.returns
returns c = holding.one_holds
