use Rattle.std.proofs.Common.{◌≡◌, pos, arith, w32, to_z}
use Rattle.std.proofs.lemmas.Int.{ints}
use Rattle.std.proofs.lemmas.Bool.Decides.{nat_tests}
use Rattle.xls_shown_numbers.proofs.GeneralLemmas.{magnitude_15}
use Rattle.xls_shown_numbers.proofs.general.push_from_one.Goals as goal

pub push_fixed_form-requires-clause-before : goal.push_fixed_form-requires-clause-before
push_fixed_form-requires-clause-before c =
    let m = magnitude_15 c.args.decimal c.requires.digits in
    omega (arith, ints, c.requires.k)

pub rounded-requires-clause-before : goal.rounded-requires-clause-before
rounded-requires-clause-before c =
    let m = magnitude_15 c.args.decimal c.requires.digits in
    omega (arith, ints, c.requires.k)

pub push_fixed_form-requires-then-rounded-ne100000000000-clause-before : goal.push_fixed_form-requires-then-rounded-ne100000000000-clause-before
push_fixed_form-requires-then-rounded-ne100000000000-clause-before c =
    let m = magnitude_15 c.args.decimal c.requires.digits in
    omega (arith, ints, c.requires.k)

pub overflow_cast-k : goal.overflow_cast-k
overflow_cast-k c =
    let m = magnitude_15 c.args.decimal c.requires.digits in
    omega (arith, ints, c.requires.k)

pub push_exponent_form-requires-clause-k : goal.push_exponent_form-requires-clause-k
push_exponent_form-requires-clause-k c =
    let m = magnitude_15 c.args.decimal c.requires.digits in
    omega (arith, ints, c.requires.k)

pub returns-else-k-eq10-clause-ok : goal.returns-else-k-eq10-clause-ok
returns-else-k-eq10-clause-ok c =
    let m = magnitude_15 c.args.decimal c.requires.digits in
    let same : to_z w32 c.args.k ≡ pos c.args.k = omega (arith, ints, c.requires.k) in
    grind (arith, nat_tests, same)
