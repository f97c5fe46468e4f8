use Rattle.xls_sectors.proofs.ChainLemmas as chains
use Rattle.xls_sectors.proofs.laws.one_outcome.Goals as goal

pub returns : goal.returns
returns c = λ next bound first past. chains.one_outcome next bound first past
