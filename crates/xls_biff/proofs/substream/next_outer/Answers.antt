use Rattle.std.proofs.Common.{arith, sym, ◌∙◌, length, ◌+◌, ◌≤◌}
use Rattle.xls_stream.proofs.Runs.{begins_fewer}
use Rattle.xls_stream.specs.Substreams.{IsPlain}
use Rattle.xls_biff.specs.Walking.{group_of}
use Rattle.xls_biff.specs.Outer.{Skips}
use Rattle.xls_biff.proofs.OuterLemmas.{skips_bof, skips_eof, skips_inside, skips_other, keeps, over_eof, over_end, skipped_of}
use Rattle.xls_biff.proofs.substream.next_outer.Goals as goal
use Rattle.xls_biff.proofs.substream.next_outer.Goals.{then-r-eq-BOF, else-r-eq-BOF+then-r-eq-EOF+else-depth-le1, else-r-eq-BOF+else-r-eq-EOF+else-depth-le1-2, else-depth-le1-2-via-then-depth-le1-2+else-is_sheet_type, else-depth-le1-2-via-else-depth-le1-2}

pub returns-then-depth-le1-clause-steps : goal.returns-then-depth-le1-clause-steps
returns-then-depth-le1-clause-steps c =
    let l = c.loop-item in
    let begun = rw c.in-Ok.is at c.in-Some.ensures.steps in
    (over_eof c.args.records.now l.records c.next.new.self c.args.depth.now l.depth (group_of c.in-Ok.r) l.invariant.2 begun c.if-r-eq-EOF.true c.if-depth-le1.true, c.new.ensures)

pub returns-then-is_sheet_type-clause-steps : goal.returns-then-is_sheet_type-clause-steps
returns-then-is_sheet_type-clause-steps c =
    let l = c.loop-item in
    let begun = rw c.in-Ok.is at c.in-Some.ensures.steps in
    let kept = keeps c.args.records.now l.records c.next.new.self c.args.depth.now l.depth (group_of c.in-Ok.r) l.invariant.2 begun (c.if-r-eq-BOF.false, c.if-r-eq-EOF.false) c.if-depth-le1-2.true (sym c.is_sheet_type.ensures ∙ c.if-is_sheet_type.true) in
    rw l.invariant.4 (kept, (c.next.new.self, begun), skipped_of c.args.records.now l.records c.args.depth.now l.depth l.invariant.2)

pub loop-item-preserved : goal.loop-item-preserved
loop-item-preserved c =
    let l = c.loop-item in
    let begun = rw c.in-Ok.is at c.in-Some.ensures.steps in
    let g = group_of c.in-Ok.r in
    let fewer = begins_fewer l.records g c.next.new.self begun in
    let now = c.if-r-eq-BOF.depth in
    let step : Skips c.args.records.now c.args.depth.now c.next.new.self now × (now + length c.next.new.self ≤ c.args.depth.now + length c.args.records.now) = elim c.if-r-eq-BOF.branch [
      -- a BOF opens one more substream
      | then-r-eq-BOF w ↦
          rw w.depth-is (skips_bof c.args.records.now l.records c.next.new.self c.args.depth.now l.depth g l.invariant.2 begun w.if-r-eq-BOF.true, omega (arith, l.invariant.3, fewer))
      -- an EOF ends a nested one
      | else-r-eq-BOF+then-r-eq-EOF+else-depth-le1 w ↦
          rw w.depth-is (skips_eof c.args.records.now l.records c.next.new.self c.args.depth.now l.depth g l.invariant.2 begun w.if-r-eq-EOF.true w.if-depth-le1.false, omega (arith, l.invariant.3, fewer))
      -- a record of another type, or one of a nested substream
      | else-r-eq-BOF+else-r-eq-EOF+else-depth-le1-2 w ↦
          let plain : IsPlain g = (w.if-r-eq-BOF.false, w.if-r-eq-EOF.false) in
          let skips : Skips c.args.records.now c.args.depth.now c.next.new.self l.depth = elim w.else-depth-le1-2.branch [
            | else-depth-le1-2-via-then-depth-le1-2+else-is_sheet_type v ↦
                skips_other c.args.records.now l.records c.next.new.self c.args.depth.now l.depth g l.invariant.2 begun plain v.if-depth-le1-2.true (sym v.is_sheet_type.ensures ∙ v.if-is_sheet_type.false)
            | else-depth-le1-2-via-else-depth-le1-2 v ↦
                skips_inside c.args.records.now l.records c.next.new.self c.args.depth.now l.depth g l.invariant.2 begun plain v.if-depth-le1-2.false
          ] in
          rw w.depth-is (skips, omega (arith, l.invariant.3, fewer))
    ] in
    (tt, tt, step.0, step.1, c.rest-start-in-Some.ensures)

pub returns-clause-steps : goal.returns-clause-steps
returns-clause-steps c =
    let l = c.loop-item in
    (over_end c.args.records.now l.records c.args.depth.now l.depth l.invariant.2 c.in_default.ensures.steps.0, c.in_default.ensures.steps.1)
