use Rattle.std.proofs.Common.{sym, ap, ◌∙◌, []}
use Rattle.xls_bodies.specs.Bodies.{joined, whole_of, continued}
use Rattle.xls_bodies.proofs.BodyLemmas.{continued_end}
use Rattle.xls_bodies.proofs.body.Body.at.Goals as goal

pub returns-in_default : goal.returns-in_default
returns-in_default c =
    let step = c.in_default.ensures.steps in
    ap (joined []) (c.new.ensures ∙ ap continued step.1 ∙ continued_end) ∙ sym (ap whole_of (sym c.new-records.ensures.value ∙ step.0))

pub returns : goal.returns
returns c =
    ap (joined c.in-Some.first.body.now) c.new-2.ensures ∙ sym (ap whole_of (sym c.new-records.ensures.value ∙ c.in-Some.ensures.steps))
