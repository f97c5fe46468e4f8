use Rattle.xls_meaning.proofs.RegionLemmas as lemmas
use Rattle.xls_meaning.proofs.laws.regions_by_name.Goals as goal

pub returns : goal.returns
returns c = lemmas.regions_by_name
