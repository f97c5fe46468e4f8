use Rattle.xls_text.proofs.PageLemmas.{map_same}
use Rattle.xls_text.proofs.append.append_narrow.Goals as goal

pub returns-clause-ok : goal.returns-clause-ok
returns-clause-ok c = rw map_same at c.append_single.ensures.ok
