use Rattle.xls_compound.proofs.OneCompoundLemmas.{one_held}
use Rattle.xls_compound.proofs.laws.one_compound.Goals as goal

pub returns : goal.returns
returns c = one_held c.one_answer.ensures.files c.one_answer.ensures.chains c.one_answer.ensures.streams c.one_listing.ensures.listing
