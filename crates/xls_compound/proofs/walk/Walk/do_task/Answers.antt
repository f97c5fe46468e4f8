use Rattle.std.proofs.Common.{OnOk, sym, subst}
use Rattle.xls_compound.specs.declared.tasks.Task.{Task}
use Rattle.xls_compound.specs.Steps.{before, GoesOn}
use Rattle.xls_compound.proofs.walk.Walk.do_task.Goals as goal

pub returns-in-Rest-clause-ok : goal.returns-in-Rest-clause-ok
returns-in-Rest-clause-ok c =
    subst (λ (t : Task). OnOk c.go_on.result (GoesOn c.args.entries.now (before t c.args.self.now) c.go_on.new.self))
    (sym c.in-Rest.is) c.go_on.ensures.ok
