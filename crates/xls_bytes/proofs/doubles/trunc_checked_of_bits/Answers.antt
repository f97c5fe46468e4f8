use Rattle.xls_bytes.proofs.TruncLemmas.{trunc_checked_of_is}
use Rattle.xls_bytes.proofs.doubles.trunc_checked_of_bits.Goals as goal

pub returns-clause-cut : goal.returns-clause-cut
returns-clause-cut c n = rw c.computed_checked.ensures (trunc_checked_of_is c.args.bits c.args.over n c.requires)
