use Rattle.std.proofs.Common.{◌<◌, length, rules}
use Rattle.std.specs.Fmt.{decimal}
use Rattle.std.proofs.lemmas.Fmt.{decimal_nonempty}
use Rattle.xls_rounding.proofs.formula_numbers.push_decimal.Goals as goal

pub push_below_one-requires-clause-some : goal.push_below_one-requires-clause-some
push_below_one-requires-clause-some c =
    let some : 0 < length (decimal c.without_zeros.result) = decimal_nonempty c.without_zeros.result (search rules) in
    rw c.format-digits.ensures.text some

pub push_from_one-requires-clause-some : goal.push_from_one-requires-clause-some
push_from_one-requires-clause-some c =
    let some : 0 < length (decimal c.without_zeros.result) = decimal_nonempty c.without_zeros.result (search rules) in
    rw c.format-digits.ensures.text some
