use Rattle.std.proofs.Common.{sym, ◌∙◌, arith}
use Rattle.xls_hidden.specs.Lines.{why_at}
use Rattle.xls_hidden.proofs.RunLemmas.{runs_none}
use Rattle.xls_hidden.proofs.lines.RunsIterator.next.Goals as goal

pub returns-in_default-clause-steps : goal.returns-in_default-clause-steps
returns-in_default-clause-steps c =
    let s = c.self.inside in
    (sym c.self.view_is ∙ c.in_default.ensures, runs_none (why_at s.lines.now) s.count s.count (omega arith))
