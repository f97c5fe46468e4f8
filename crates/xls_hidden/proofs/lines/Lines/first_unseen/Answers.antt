use Rattle.std.proofs.Common.{sym, ◌∙◌, arith}
use Rattle.xls_hidden.specs.Lines.{why_at}
use Rattle.xls_hidden.proofs.RunLemmas.{runs_seen, runs_none}
use Rattle.xls_hidden.proofs.lines.Lines.first_unseen.Goals as goal

pub loop-line-preserved : goal.loop-line-preserved
loop-line-preserved c =
    let l = c.loop-line in
    (l.invariant.0 ∙ runs_seen (why_at c.args.self.now) l.line c.args.count c.loop-line-test.true (sym c.in_default.ensures), omega (arith, c.loop-line-test.true))

pub returns : goal.returns
returns c =
    let l = c.loop-line in
    l.invariant.0 ∙ runs_none (why_at c.args.self.now) l.line c.args.count c.loop-line-test.false
