use Rattle.std.proofs.Common.{◌∙◌}
use Rattle.xls_csv.proofs.LineLemmas.{quoted_more, quoted_end}
use Rattle.xls_csv.proofs.line.push_quoted.Goals as goal

pub loop-i-preserved : goal.loop-i-preserved
loop-i-preserved c =
    rw c.in_ok-push_doubled.ensures (quoted_more c.loop-i.bytes.items _ c.args.text.now c.loop-i.i c.loop-i-test.true c.loop-i.invariant)

pub returns : goal.returns
returns c =
    c.in_ok-push-2.ensures.items ∙ quoted_end c.loop-i.bytes.items _ c.args.text.now c.loop-i.i c.loop-i-test.false c.loop-i.invariant
