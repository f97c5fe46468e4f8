use Rattle.std.proofs.Common.{arith}
use Rattle.std.proofs.lemmas.Fmt.{decimal_digit}
use Rattle.xls_readable.proofs.CellLemmas.{adds_two_digits}
use Rattle.xls_readable.proofs.cell_lines.push_short_count.Goals as goal

pub returns-then-n-lt10-clause-ok : goal.returns-then-n-lt10-clause-ok
returns-then-n-lt10-clause-ok c = rw (decimal_digit c.args.n (omega (arith, c.if-n-lt10.true))) c.push_digit.ensures.ok

pub returns-then-n-lt100-clause-ok : goal.returns-then-n-lt100-clause-ok
returns-then-n-lt100-clause-ok c =
    adds_two_digits c.push_digit-then-n-lt100-2.result c.args.n _ _ _ (omega (arith, c.if-n-lt10.false)) (omega (arith, c.if-n-lt100.true))
    c.in_ok-push_digit.ensures.ok c.push_digit-then-n-lt100-2.ensures.ok
