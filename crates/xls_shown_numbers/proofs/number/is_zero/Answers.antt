use Rattle.xls_rounding.proofs.PlaceLemmas.{ten_pos}
use Rattle.xls_shown_numbers.proofs.NumberLemmas.{times_none}
use Rattle.xls_shown_numbers.proofs.number.is_zero.Goals as goal

pub returns : goal.returns
returns c = times_none c.args.n.digits _ (ten_pos c.args.n.zeros)
