use Rattle.std.proofs.Common.{rules, ◌≡◌, ◌++◌, codes, ap, arith, length}
use Rattle.std.specs.Fmt.{decimal}
use Rattle.xls_lines.specs.Lines.{tabbed}
use Rattle.xls_lines.proofs.ShortLemmas.{length-head}
use Rattle.xls_lines.proofs.head.Head.new.Goals as goal

pub invariant_of-result : goal.invariant_of-result
invariant_of-result c =
    let text : c.put_word.new.self ≡ codes "cell" ++ (tabbed (decimal c.args.row) ++ codes "\t") = search rules in
    (text, omega (arith, ap length text, length-head c.args.row c.ranges.row.fits))
