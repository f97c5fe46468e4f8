use Rattle.std.proofs.Common.{arith}
use Rattle.std.specs.Str.{chars}
use Rattle.xls_formula_names.proofs.QuoteLemmas.{number_above}
use Rattle.xls_formula_names.proofs.quotes.begins_with_number.Goals as goal

pub returns-then-number-last : goal.returns-then-number-last
returns-then-number-last c =
    let above = number_above c.args.last _ (chars c.in-Some.rest.now) c.if-number-last.true in
    let all = c.digits.invariant.number in
    let first = c.in-Some.ensures.exact in
    grind (arith, above, all, first, c.if-not-is_ascii_digit.false, c.is_ascii_digit.ensures.value)
