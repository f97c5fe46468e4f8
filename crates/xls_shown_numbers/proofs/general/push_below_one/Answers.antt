use Rattle.std.proofs.Common.{arith}
use Rattle.std.proofs.lemmas.Int.{ints}
use Rattle.xls_shown_numbers.proofs.GeneralLemmas.{magnitude_15}
use Rattle.xls_shown_numbers.proofs.general.push_below_one.Goals as goal

pub push_fixed_form-requires-clause-before : goal.push_fixed_form-requires-clause-before
push_fixed_form-requires-clause-before c =
    let m = magnitude_15 c.args.decimal c.requires.digits in
    omega (arith, ints, c.requires.k)
