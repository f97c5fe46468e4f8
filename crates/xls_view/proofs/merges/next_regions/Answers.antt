use Rattle.std.proofs.Common.{refl, sym, ◌∙◌, [], ◌∷◌}
use Rattle.xls_biff.specs.Walking.{group_of}
use Rattle.xls_view.specs.SheetContents.{regions_of}
use Rattle.xls_view.proofs.ContentLemmas.{regions_next, none_over, none_cut, none_left, left_bytes}
use Rattle.xls_view.proofs.merges.next_regions.Goals as goal

pub returns-in-Err-clause-passes : goal.returns-in-Err-clause-passes
returns-in-Err-clause-passes c =
    let l = c.loop-item in
    let steps = rw c.in-Err.is at c.in-Some.ensures.steps in
    (l.invariant.3 ∙ none_cut regions_of refl l.records c.in-Err.field-0 l.invariant.2 steps.0, none_left regions_of refl c.next.new.self steps.1)

pub returns-in-Some-next-clause-bytes : goal.returns-in-Some-next-clause-bytes
returns-in-Some-next-clause-bytes c =
    let l = c.loop-item in
    left_bytes l.records (group_of c.in-Ok.record) c.next.new.self l.invariant.2 (rw c.in-Ok.is at c.in-Some.ensures.steps)

pub returns-in-Some-next-clause-passes : goal.returns-in-Some-next-clause-passes
returns-in-Some-next-clause-passes c =
    let l = c.loop-item in
    l.invariant.3
    ∙ regions_next l.records (group_of c.in-Ok.record) c.next.new.self l.invariant.2 (rw c.in-Ok.is at c.in-Some.ensures.steps)
    (c.in-Some-next.region ∷ c.next-in-Some.new.self) (sym c.in-Some-next.ensures ∙ c.of-regions.ensures)

pub loop-item-preserved : goal.loop-item-preserved
loop-item-preserved c =
    let l = c.loop-item in
    let steps = rw c.in-Ok.is at c.in-Some.ensures.steps in (
      tt,
      tt,
      left_bytes l.records (group_of c.in-Ok.record) c.next.new.self l.invariant.2 steps,
      l.invariant.3
          ∙ regions_next l.records (group_of c.in-Ok.record) c.next.new.self l.invariant.2 steps [] (sym (rw c.in_default-next.is at c.next-in-Some.ensures).0 ∙ c.of-regions.ensures),
    )

pub returns-clause-passes : goal.returns-clause-passes
returns-clause-passes c =
    let l = c.loop-item in
    (l.invariant.3 ∙ none_over regions_of refl l.records l.invariant.2 c.in_default.ensures.steps.0, none_left regions_of refl c.next.new.self c.in_default.ensures.steps.1)
