use Rattle.std.proofs.Common.{refl, ◌∙◌, Some, None}
use Rattle.xls_biff.specs.Walking.{group_of}
use Rattle.xls_view.specs.Formulas.{formulas_kept}
use Rattle.xls_view.specs.Walking.{formula_seen}
use Rattle.xls_view.proofs.ContentLemmas.{formulas_next, none_over, none_cut, none_left, left_bytes}
use Rattle.xls_view.proofs.formulas.next_formula.Goals as goal

pub returns-in-Err-clause-passes : goal.returns-in-Err-clause-passes
returns-in-Err-clause-passes c =
    let l = c.loop-item in
    let steps = rw c.in-Err.is at c.in-Some.ensures.steps in
    (l.invariant.3 ∙ none_cut formulas_kept refl l.records c.in-Err.field-0 l.invariant.2 steps.0, none_left formulas_kept refl c.next.new.self steps.1)

pub returns-in-Some-formula_of-clause-bytes : goal.returns-in-Some-formula_of-clause-bytes
returns-in-Some-formula_of-clause-bytes c =
    let l = c.loop-item in
    left_bytes l.records (group_of c.in-Ok.record) c.next.new.self l.invariant.2 (rw c.in-Ok.is at c.in-Some.ensures.steps)

pub returns-in-Some-formula_of-clause-passes : goal.returns-in-Some-formula_of-clause-passes
returns-in-Some-formula_of-clause-passes c =
    let l = c.loop-item in
    l.invariant.3
    ∙ formulas_next l.records (group_of c.in-Ok.record) c.next.new.self l.invariant.2 (rw c.in-Ok.is at c.in-Some.ensures.steps)
    (Some (formula_seen c.in-Some-formula_of.formula)) (rw c.in-Some-formula_of.is at c.formula_of.ensures)

pub loop-item-preserved : goal.loop-item-preserved
loop-item-preserved c =
    let l = c.loop-item in
    let steps = rw c.in-Ok.is at c.in-Some.ensures.steps in (
      tt,
      tt,
      left_bytes l.records (group_of c.in-Ok.record) c.next.new.self l.invariant.2 steps,
      l.invariant.3
          ∙ formulas_next l.records (group_of c.in-Ok.record) c.next.new.self l.invariant.2 steps None (rw c.in_default-formula_of.is at c.formula_of.ensures),
    )

pub returns-clause-passes : goal.returns-clause-passes
returns-clause-passes c =
    let l = c.loop-item in
    (l.invariant.3 ∙ none_over formulas_kept refl l.records l.invariant.2 c.in_default.ensures.steps.0, none_left formulas_kept refl c.next.new.self c.in_default.ensures.steps.1)
