use Rattle.std.proofs.Common.{arith}
use Rattle.std.proofs.lemmas.Int.{ints}
use Rattle.xls_shown_numbers.proofs.GeneralLemmas.{magnitude_15, some_at}
use Rattle.xls_shown_numbers.proofs.general.push_exponent_form.Goals as goal

pub rounded-requires-clause-before : goal.rounded-requires-clause-before
rounded-requires-clause-before c =
    let m = magnitude_15 c.args.decimal c.requires.digits in
    omega (arith, ints, c.requires.k)

pub rounded-requires-clause-low : goal.rounded-requires-clause-low
rounded-requires-clause-low c =
    let m = magnitude_15 c.args.decimal c.requires.digits in
    omega (arith, ints, c.requires.k)

pub push_power_form-requires-clause-n : goal.push_power_form-requires-clause-n
push_power_form-requires-clause-n c =
    let m = magnitude_15 c.args.decimal c.requires.digits in
    rw c.rounded.ensures (some_at c.args.decimal _ c.requires.digits (omega (arith, ints, c.requires.k)))

pub push_power_form-requires-clause-k : goal.push_power_form-requires-clause-k
push_power_form-requires-clause-k c =
    let m = magnitude_15 c.args.decimal c.requires.digits in
    omega (arith, ints, c.requires.k)
