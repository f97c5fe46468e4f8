use Rattle.xls_arrays.proofs.ReportedLemmas.{arrays-are-reported}
use Rattle.xls_arrays.proofs.laws.arrays_are_reported.Goals as goal

pub returns : goal.returns
returns c = arrays-are-reported
