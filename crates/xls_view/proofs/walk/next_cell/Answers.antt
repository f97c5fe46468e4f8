use Rattle.std.proofs.Common.{refl, sym, ◌∙◌, []}
use Rattle.xls_biff.specs.Walking.{group_of}
use Rattle.xls_view.specs.Formats.{last_formula}
use Rattle.xls_view.proofs.ContentLemmas.{sound_next, formatted_next, line_next, over_sound, cut_sound, nothing_left, no_formatted}
use Rattle.xls_view.proofs.walk.next_cell.Goals as goal

pub loop-item-init : goal.loop-item-init
loop-item-init c = (tt, tt, c.requires.sound, c.requires.none, refl)

-- the part is cut here
pub returns-in-Err-clause-sound : goal.returns-in-Err-clause-sound
returns-in-Err-clause-sound c =
    let steps = rw c.in-Err.is at c.in-Some.ensures.steps in
    (nothing_left c.args.settings.now c.next.new.self steps.1).1

pub returns-in-Err-clause-passes : goal.returns-in-Err-clause-passes
returns-in-Err-clause-passes c =
    let l = c.loop-item in
    let steps = rw c.in-Err.is at c.in-Some.ensures.steps in (
      l.invariant.4 ∙ no_formatted c.args.settings.now l.records (last_formula l.last) (cut_sound c.args.settings.now l.records c.in-Err.field-0 l.invariant.2 steps.0),
      rw l.invariant.3 (no_formatted c.args.settings.now c.next.new.self (last_formula l.last) (nothing_left c.args.settings.now c.next.new.self steps.1).0),
    )

pub returns-in-Some-first_cell-clause-sound : goal.returns-in-Some-first_cell-clause-sound
returns-in-Some-first_cell-clause-sound c =
    let l = c.loop-item in
    let steps = rw c.in-Ok.is at c.in-Some.ensures.steps in
    sound_next c.args.settings.now l.records (group_of c.in-Ok.record) c.next.new.self l.invariant.2 steps

pub returns-in-Some-first_cell-clause-passes : goal.returns-in-Some-first_cell-clause-passes
returns-in-Some-first_cell-clause-passes c =
    let l = c.loop-item in
    let steps = rw c.in-Ok.is at c.in-Some.ensures.steps in
    l.invariant.4
    ∙ formatted_next c.args.settings.now l.records (group_of c.in-Ok.record) c.next.new.self l.invariant.2 steps (last_formula l.last) (last_formula c.after.result) _
    (λ line is. sym (rw c.in-Some-first_cell.is at c.first_cell.ensures line is))
    (λ line is. c.after.ensures c.args.settings.now.cells line is)

pub loop-item-preserved : goal.loop-item-preserved
loop-item-preserved c =
    let l = c.loop-item in
    let steps = rw c.in-Ok.is at c.in-Some.ensures.steps in (
      tt,
      tt,
      sound_next c.args.settings.now l.records (group_of c.in-Ok.record) c.next.new.self l.invariant.2 steps,
      (rw c.in_default-first_cell.is at c.first_cell.ensures (line_next c.args.settings.now l.records (group_of c.in-Ok.record) c.next.new.self l.invariant.2 steps).0 (line_next c.args.settings.now l.records (group_of c.in-Ok.record) c.next.new.self l.invariant.2 steps).1).1,
      l.invariant.4
          ∙ formatted_next c.args.settings.now l.records (group_of c.in-Ok.record) c.next.new.self l.invariant.2 steps (last_formula l.last) (last_formula c.after.result) []
          (λ line is. sym (rw c.in_default-first_cell.is at c.first_cell.ensures line is).0)
          (λ line is. c.after.ensures c.args.settings.now.cells line is),
    )

pub returns-clause-sound : goal.returns-clause-sound
returns-clause-sound c =
    (nothing_left c.args.settings.now c.next.new.self c.in_default.ensures.steps.1).1

pub returns-clause-passes : goal.returns-clause-passes
returns-clause-passes c =
    let l = c.loop-item in (
      l.invariant.4 ∙ no_formatted c.args.settings.now l.records (last_formula l.last) (over_sound c.args.settings.now l.records l.invariant.2 c.in_default.ensures.steps.0),
      rw l.invariant.3 (no_formatted c.args.settings.now c.next.new.self (last_formula l.last) (nothing_left c.args.settings.now c.next.new.self c.in_default.ensures.steps.1).0),
    )
