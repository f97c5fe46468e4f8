use Rattle.std.proofs.Common.{rules, sym, ap, ◌∙◌}
use Rattle.xls_parts.specs.PartRecords.{placed_of, until_eof}
use Rattle.xls_parts.proofs.PartRecordsLemmas.{until_end, until_stop, until_more, records_empty, one_fewer}
use Rattle.xls_parts.proofs.part_records.GlobalsRecordsIterator.next.Goals as goal

pub returns-in_default-clause-steps : goal.returns-in_default-clause-steps
returns-in_default-clause-steps c =
    let step = c.in_default.ensures.steps in
    (sym c.self.view_is ∙ ap until_eof step.0 ∙ until_end, ap until_eof step.1 ∙ until_end)

pub returns-then-record-eq-EOF-clause-steps : goal.returns-then-record-eq-EOF-clause-steps
returns-then-record-eq-EOF-clause-steps c =
    let step = c.in-Some.ensures.steps in (
      sym c.self.view_is ∙ ap until_eof step ∙ until_stop (placed_of c.in-Some.record) c.next.new.self c.if-record-eq-EOF.true,
      ap until_eof (c.new-self-inside.ensures.value ∙ records_empty 0) ∙ until_end,
    )

pub returns-clause-steps : goal.returns-clause-steps
returns-clause-steps c =
    let step = c.in-Some.ensures.steps in
    sym c.self.view_is ∙ ap until_eof step ∙ until_more (placed_of c.in-Some.record) c.next.new.self c.if-record-eq-EOF.false

pub returns-clause-goes : goal.returns-clause-goes
returns-clause-goes c = let shorter = one_fewer _ _ _ (returns-clause-steps c) in search rules
