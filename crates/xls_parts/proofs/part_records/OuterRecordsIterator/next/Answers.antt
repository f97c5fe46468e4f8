use Rattle.std.proofs.Common.{rules, sym, ap, ◌∙◌, arith, length, ◌≡◌, ◌∷◌}
use Rattle.xls_parts.specs.PartRecords.{placed_of, outer_from}
use Rattle.xls_parts.proofs.PartRecordsLemmas.{records_empty, outer_end, outer_bof, outer_eof, outer_eof_inside, outer_kept, outer_inside, one_fewer}
use Rattle.xls_parts.proofs.part_records.OuterRecordsIterator.next.Goals as goal

pub loop-record-preserved-then-record-eq-BOF : goal.loop-record-preserved-then-record-eq-BOF
loop-record-preserved-then-record-eq-BOF c =
    let l = c.loop-record in
    let now = c.next.new.self in
    let step : l.self-inside.records ≡ placed_of c.in-Some.record ∷ now = c.in-Some.ensures.steps in
    let depth = l.self-inside.depth in
    (sym (outer_bof depth (placed_of c.in-Some.record) now c.if-record-eq-BOF.true) ∙ ap (outer_from depth) (sym step) ∙ l.invariant.0, omega (arith, l.invariant.1, ap length step))

pub returns-then-self-le1-clause-steps : goal.returns-then-self-le1-clause-steps
returns-then-self-le1-clause-steps c =
    let l = c.loop-record in
    let now = c.next.new.self in
    let step : l.self-inside.records ≡ placed_of c.in-Some.record ∷ now = c.in-Some.ensures.steps in
    let depth = l.self-inside.depth in (
      sym c.self.view_is ∙ sym l.invariant.0 ∙ ap (outer_from depth) step ∙ outer_eof depth (placed_of c.in-Some.record) now c.if-record-eq-EOF.true c.if-self-le1.true,
      ap (outer_from depth) (c.new-self-inside.ensures.value ∙ records_empty 0) ∙ outer_end depth,
    )

pub loop-record-preserved-then-record-eq-EOF : goal.loop-record-preserved-then-record-eq-EOF
loop-record-preserved-then-record-eq-EOF c =
    let l = c.loop-record in
    let now = c.next.new.self in
    let step : l.self-inside.records ≡ placed_of c.in-Some.record ∷ now = c.in-Some.ensures.steps in
    let depth = l.self-inside.depth in (
      sym (outer_eof_inside depth (placed_of c.in-Some.record) now c.if-record-eq-EOF.true c.if-self-le1.false) ∙ ap (outer_from depth) (sym step) ∙ l.invariant.0,
      omega (arith, l.invariant.1, ap length step),
    )

pub returns-then-self-le1-2-clause-steps : goal.returns-then-self-le1-2-clause-steps
returns-then-self-le1-2-clause-steps c =
    let l = c.loop-record in
    let now = c.next.new.self in
    let step : l.self-inside.records ≡ placed_of c.in-Some.record ∷ now = c.in-Some.ensures.steps in
    let depth = l.self-inside.depth in
    sym c.self.view_is ∙ sym l.invariant.0 ∙ ap (outer_from depth) step ∙ outer_kept depth (placed_of c.in-Some.record) now c.if-record-eq-BOF.false c.if-record-eq-EOF.false c.if-self-le1-2.true

pub returns-then-self-le1-2-clause-goes : goal.returns-then-self-le1-2-clause-goes
returns-then-self-le1-2-clause-goes c = let shorter = one_fewer _ _ _ (returns-then-self-le1-2-clause-steps c) in search rules

pub loop-record-preserved : goal.loop-record-preserved
loop-record-preserved c =
    let l = c.loop-record in
    let now = c.next.new.self in
    let step : l.self-inside.records ≡ placed_of c.in-Some.record ∷ now = c.in-Some.ensures.steps in
    let depth = l.self-inside.depth in (
      sym (outer_inside depth (placed_of c.in-Some.record) now c.if-record-eq-BOF.false c.if-record-eq-EOF.false c.if-self-le1-2.false) ∙ ap (outer_from depth) (sym step) ∙ l.invariant.0,
      omega (arith, l.invariant.1, ap length step),
    )

pub returns-clause-steps : goal.returns-clause-steps
returns-clause-steps c =
    let l = c.loop-record in
    let step = c.in_default.ensures.steps in
    let depth = l.self-inside.depth in
    (sym c.self.view_is ∙ sym l.invariant.0 ∙ ap (outer_from depth) step.0 ∙ outer_end depth, ap (outer_from depth) step.1 ∙ outer_end depth)
