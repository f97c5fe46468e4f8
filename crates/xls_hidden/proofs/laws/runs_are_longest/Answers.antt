use Rattle.xls_hidden.proofs.LongestLemmas as lemmas
use Rattle.xls_hidden.proofs.laws.runs_are_longest.Goals as goal

pub returns : goal.returns
returns c = lemmas.runs_are_longest
