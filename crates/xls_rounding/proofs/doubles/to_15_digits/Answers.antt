use Rattle.std.proofs.Common.{◌≡◌, ◌+◌, ◌-◌, ◌%◌, ◌^◌, arith}
use Rattle.std.proofs.lemmas.Bool.{ne_eqb}
use Rattle.xls_rounding.specs.Rounding.{decimal_of}
use Rattle.xls_rounding.proofs.doubles.to_15_digits.Goals as goal

pub returns-then-exponent-eq0-clause-exact : goal.returns-then-exponent-eq0-clause-exact
unfolding decimal_of
returns-then-exponent-eq0-clause-exact c = rw c.if-exponent-eq0.true

pub returns-clause-exact : goal.returns-clause-exact
unfolding decimal_of
returns-clause-exact c =
    let fraction : 2 ^ 52 + c.args.bits % 2 ^ 52 - 2 ^ 52 ≡ c.args.bits % 2 ^ 52 = omega arith in
    rw (ne_eqb _ _ c.if-exponent-eq0.false) (rw fraction at c.rounded_size.ensures.exact)

pub returns-clause-scale : goal.returns-clause-scale
returns-clause-scale c = λ some.
    let fraction : 2 ^ 52 + c.args.bits % 2 ^ 52 - 2 ^ 52 ≡ c.args.bits % 2 ^ 52 = omega arith in
    rw fraction at c.rounded_size.ensures.scale

pub returns-clause-whole : goal.returns-clause-whole
returns-clause-whole c = λ n some small same.
    let fraction : 2 ^ 52 + c.args.bits % 2 ^ 52 - 2 ^ 52 ≡ c.args.bits % 2 ^ 52 = omega arith in
    c.rounded_size.ensures.whole n small (rw fraction same)
