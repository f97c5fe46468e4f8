use Rattle.xls_listing.proofs.ReadingLemmas as lemmas
use Rattle.xls_listing.proofs.laws.recorded_is_dump.Goals as goal

pub returns : goal.returns
returns c = lemmas.recorded_is_dump
