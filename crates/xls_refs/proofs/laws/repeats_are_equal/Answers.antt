use Rattle.xls_refs.proofs.EqualLemmas.{repeats_are_equal}
use Rattle.xls_refs.proofs.laws.repeats_are_equal.Goals as goal

pub returns : goal.returns
returns c = repeats_are_equal
