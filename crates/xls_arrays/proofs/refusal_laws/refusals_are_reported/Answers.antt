use Rattle.xls_arrays.proofs.RefusalLemmas.{refusals-are-reported}
use Rattle.xls_arrays.proofs.refusal_laws.refusals_are_reported.Goals as goal

pub returns : goal.returns
returns c = refusals-are-reported
