use Rattle.std.proofs.Common.{arith}
use Rattle.xls_rounding.proofs.FormulaLemmas.{zero_off, zeros_gone}
use Rattle.xls_rounding.proofs.formula_numbers.without_zeros.Goals as goal

pub loop-rest-preserved : goal.loop-rest-preserved
loop-rest-preserved c =
    let l = c.loop-rest in
    let off = zero_off l.rest _ l.invariant.0 (omega arith) c.loop-rest-test.true l.invariant.2 in
    (off.0, omega arith, off.1)

pub returns : goal.returns
returns c =
    let l = c.loop-rest in
    zeros_gone l.rest _ l.invariant.0 (omega arith) c.loop-rest-test.false l.invariant.2
