use Rattle.xls_bytes.proofs.WholeLemmas.{whole_of_is}
use Rattle.xls_bytes.proofs.doubles.whole_of_bits.Goals as goal

pub returns-clause-whole : goal.returns-clause-whole
returns-clause-whole c n = rw c.computed_whole.ensures (whole_of_is c.args.bits n)
