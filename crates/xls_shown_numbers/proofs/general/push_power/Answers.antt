use Rattle.std.proofs.Common.{◌<◌, length, rules}
use Rattle.std.specs.Fmt.{decimal}
use Rattle.std.proofs.lemmas.Fmt.{decimal_nonempty}
use Rattle.xls_shown_numbers.proofs.general.push_power.Goals as goal

pub push_scientific-requires-clause-some : goal.push_scientific-requires-clause-some
push_scientific-requires-clause-some c =
    let some : 0 < length (decimal c.args.digits) = decimal_nonempty c.args.digits (search rules) in
    rw c.format-digits.ensures.text some

pub push_scientific-requires-else-exponent-lt0-clause-some : goal.push_scientific-requires-else-exponent-lt0-clause-some
push_scientific-requires-else-exponent-lt0-clause-some c =
    let some : 0 < length (decimal c.args.digits) = decimal_nonempty c.args.digits (search rules) in
    rw c.format-digits.ensures.text some
