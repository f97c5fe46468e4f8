use Rattle.xls_meaning.proofs.LawLemmas as lemmas
use Rattle.xls_meaning.proofs.laws.sound_where_full.Goals as goal

pub returns : goal.returns
returns c = lemmas.sound_where_full
