use Rattle.xls_parts.proofs.PartLemmas as lemmas
use Rattle.xls_parts.proofs.laws.outer_are_those.Goals as goal

pub returns : goal.returns
returns c = lemmas.outer_are_those
