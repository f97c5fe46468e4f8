use Rattle.std.proofs.Common.{arith}
use Rattle.xls_range.proofs.NumberLemmas.{ascending_from}
use Rattle.xls_range.proofs.sorted.is_ascending.Goals as goal

pub returns : goal.returns
returns g c = λ t. ascending_from c.args.cells.now (λ k d l. c.loop-i.invariant k d (omega (arith, c.loop-i-test.false)))
