use Rattle.std.proofs.Common.{rules, sym, ap, ◌∙◌}
use Rattle.xls_parts.specs.PartRecords.{placed_of, own_from}
use Rattle.xls_parts.proofs.PartRecordsLemmas.{own_end, own_begin, own_leave, own_inside, own_kept, one_fewer}
use Rattle.xls_parts.proofs.part_records.PartRecordsIterator.next.Goals as goal

pub loop-record-preserved-then-record-eq-USER_S_VIEW_BEGIN : goal.loop-record-preserved-then-record-eq-USER_S_VIEW_BEGIN
loop-record-preserved-then-record-eq-USER_S_VIEW_BEGIN c =
    let l = c.loop-record in
    let step = c.in-Some.ensures.steps in
    let inside = l.self-inside.is_in_view in
    sym (own_begin (placed_of c.in-Some.record) c.next.new.self inside c.if-record-eq-USER_S_VIEW_BEGIN.true) ∙ ap (own_from inside) (sym step) ∙ l.invariant

pub loop-record-preserved-then-record-eq-USER_S_VIEW_END : goal.loop-record-preserved-then-record-eq-USER_S_VIEW_END
loop-record-preserved-then-record-eq-USER_S_VIEW_END c =
    let l = c.loop-record in
    let step = c.in-Some.ensures.steps in
    let inside = l.self-inside.is_in_view in
    sym (own_leave (placed_of c.in-Some.record) c.next.new.self inside c.if-record-eq-USER_S_VIEW_END.true) ∙ ap (own_from inside) (sym step) ∙ l.invariant

pub returns-then-not-self-clause-steps : goal.returns-then-not-self-clause-steps
returns-then-not-self-clause-steps c =
    let l = c.loop-record in
    let step = c.in-Some.ensures.steps in
    let inside = l.self-inside.is_in_view in
    sym c.self.view_is ∙ sym l.invariant ∙ ap (own_from inside) step
    ∙ own_kept (placed_of c.in-Some.record) c.next.new.self inside c.if-record-eq-USER_S_VIEW_BEGIN.false c.if-record-eq-USER_S_VIEW_END.false c.if-not-self.true

pub returns-then-not-self-clause-goes : goal.returns-then-not-self-clause-goes
returns-then-not-self-clause-goes c = let shorter = one_fewer _ _ _ (returns-then-not-self-clause-steps c) in search rules

pub loop-record-preserved : goal.loop-record-preserved
loop-record-preserved c =
    let l = c.loop-record in
    let step = c.in-Some.ensures.steps in
    let inside = l.self-inside.is_in_view in
    sym (own_inside (placed_of c.in-Some.record) c.next.new.self inside c.if-record-eq-USER_S_VIEW_BEGIN.false c.if-record-eq-USER_S_VIEW_END.false c.if-not-self.false) ∙ ap (own_from inside) (sym step) ∙ l.invariant

pub returns-clause-steps : goal.returns-clause-steps
returns-clause-steps c =
    let l = c.loop-record in
    let step = c.in_default.ensures.steps in
    let inside = l.self-inside.is_in_view in
    (sym c.self.view_is ∙ sym l.invariant ∙ ap (own_from inside) step.0 ∙ own_end inside, ap (own_from inside) step.1 ∙ own_end inside)
