use Rattle.std.proofs.Common.{◌∙◌, ap, arith}
use Rattle.xls_shown_refs.specs.Counts.{stepped}
use Rattle.xls_shown_refs.proofs.CountLemmas.{joined_few, joined_some}
use Rattle.xls_shown_refs.proofs.steps.Step.count_after.Goals as goal

pub returns-in-Some-clause-exact : goal.returns-in-Some-clause-exact
returns-in-Some-clause-exact c =
    ap (λ s. stepped s c.args.count) c.in-Makes.is ∙ joined_some c.in-Makes.taken c.args.count c.in-Some.left (omega arith)

pub returns-in-None-clause-exact : goal.returns-in-None-clause-exact
returns-in-None-clause-exact c =
    ap (λ s. stepped s c.args.count) c.in-Makes.is ∙ joined_few c.in-Makes.taken c.args.count (omega arith)
