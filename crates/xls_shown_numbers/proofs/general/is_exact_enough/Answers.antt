use Rattle.std.proofs.Common.{arith}
use Rattle.std.proofs.lemmas.Int.{ints}
use Rattle.xls_shown_numbers.proofs.GeneralLemmas.{magnitude_15}
use Rattle.xls_shown_numbers.proofs.general.is_exact_enough.Goals as goal

pub rounded-requires-clause-before : goal.rounded-requires-clause-before
rounded-requires-clause-before c =
    let m = magnitude_15 c.args.decimal c.requires.digits in
    omega (arith, ints, c.requires.k)

pub rounded-six-requires-clause-before : goal.rounded-six-requires-clause-before
rounded-six-requires-clause-before c =
    let m = magnitude_15 c.args.decimal c.requires.digits in
    omega (arith, ints, c.requires.k)
