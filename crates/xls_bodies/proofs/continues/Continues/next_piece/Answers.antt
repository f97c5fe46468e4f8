use Rattle.std.proofs.Common.{sym, ap, ◌∙◌}
use Rattle.xls_parts.specs.PartRecords.{placed_of}
use Rattle.xls_bodies.specs.Bodies.{continued}
use Rattle.xls_parts.proofs.PartRecordsLemmas.{records_empty}
use Rattle.xls_bodies.proofs.BodyLemmas.{continued_end, continued_more, continued_stop}
use Rattle.xls_bodies.proofs.continues.Continues.next_piece.Goals as goal

pub returns-in_default : goal.returns-in_default
returns-in_default c =
    let step = c.in_default.ensures.steps in
    (sym c.self.view_is ∙ ap continued step.0 ∙ continued_end, ap continued step.1 ∙ continued_end)

pub returns-then-r-eq-CONTINUE : goal.returns-then-r-eq-CONTINUE
returns-then-r-eq-CONTINUE c =
    sym c.self.view_is ∙ ap continued c.in-Some.ensures.steps ∙ continued_more
    (placed_of c.in-Some.r) c.next.new.self c.if-r-eq-CONTINUE.true

pub returns : goal.returns
returns c = (
  sym c.self.view_is ∙ ap continued c.in-Some.ensures.steps ∙ continued_stop
      (placed_of c.in-Some.r) c.next.new.self c.if-r-eq-CONTINUE.false,
  ap continued (c.new-self-inside.ensures.value ∙ records_empty 0) ∙ continued_end,
)
