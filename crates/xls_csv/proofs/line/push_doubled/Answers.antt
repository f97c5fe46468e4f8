use Rattle.std.proofs.Common.{◌≡◌, false, arith, rules}
use Rattle.std.specs.Prelude.{◌==◌}
use Rattle.xls_csv.proofs.LineLemmas.{escaped_quote, escaped_other}
use Rattle.xls_csv.proofs.line.push_doubled.Goals as goal

pub returns-then-byte-eq34 : goal.returns-then-byte-eq34
returns-then-byte-eq34 c = rw (c.if-byte-eq34.true, escaped_quote) (search rules)

pub returns : goal.returns
returns c =
    let test : (c.args.byte == 34) ≡ false = grind (arith, c.if-byte-eq34.false) in
    rw (escaped_other c.args.byte test) c.in_ok-push.ensures.items
