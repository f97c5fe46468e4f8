use Rattle.xls_vba.proofs.HashLemmas.{rsplit_at_hash}
use Rattle.xls_vba.proofs.libids.at_last_hash.Goals as goal

pub returns : goal.returns
returns c = rsplit_at_hash c.args.text.now c.rsplit_once.result c.rsplit_once.ensures.cases
