use Rattle.std.proofs.Common.{◌-◌, ◌∙◌, suc, sym, arith}
use Rattle.std.specs.Prelude.{IsTrue}
use Rattle.std.proofs.lemmas.Bool.{false≢true}
use Rattle.xls_hidden.specs.Lines.{why_at}
use Rattle.xls_hidden.proofs.RunLemmas.{run_is}
use Rattle.xls_hidden.proofs.lines.Lines.end_of_run.Goals as goal

pub returns-else-goes_on-clause-run : goal.returns-else-goes_on-clause-run
returns-else-goes_on-clause-run c =
    let l = c.loop-end in
    run_is (why_at c.args.self.now) c.args.why (l.end - suc c.args.first) c.args.first l.end c.args.count (omega (arith, l.invariant.0)) l.invariant.1 l.invariant.2
    (λ _ on. let t : IsTrue c.goes_on.result = c.goes_on.ensures.1 on in false≢true (sym c.if-goes_on.false ∙ t))

pub returns-after-loop-end-clause-run : goal.returns-after-loop-end-clause-run
returns-after-loop-end-clause-run c =
    let l = c.loop-end in
    run_is (why_at c.args.self.now) c.args.why (l.end - suc c.args.first) c.args.first l.end c.args.count (omega (arith, l.invariant.0)) l.invariant.1 l.invariant.2
    (λ below. absurd (omega (arith, below, c.loop-end-test.false)))
