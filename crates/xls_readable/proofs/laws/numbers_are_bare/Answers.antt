use Rattle.xls_readable.proofs.NumberLemmas.{numbers_bare}
use Rattle.xls_readable.proofs.laws.numbers_are_bare.Goals as goal

pub returns : goal.returns
returns c = numbers_bare
