use Rattle.std.proofs.Common.{rules, ◌≡◌, [], length, replicate, false, true, sym, ◌∙◌, ap, subst, length-set}
use Rattle.std.proofs.lemmas.List.{length-replicate}
use Rattle.xls_compound.specs.Steps.{State, at_first, ListsTree, GoesOn, RefusesStep}
use Rattle.xls_compound.proofs.StepLemmas.{goes_on-refl, goes_on-trans, all_read, refused}
use Rattle.xls_compound.proofs.walk.items_of.Goals as goal

pub tasks-init : goal.tasks-init
tasks-init c = record {
  size = ap (λ (s : State). length s.met) c.in_ok-walk.ensures.ok ∙ length-set (replicate (length c.args.entries.now) false) 0 true
      ∙ length-replicate (length c.args.entries.now) false;
  reads = subst (GoesOn c.args.entries.now (at_first c.args.first (length c.args.entries.now))) (sym c.in_ok-walk.ensures.ok)
      (goes_on-refl c.args.entries.now (at_first c.args.first (length c.args.entries.now)));
}

pub tasks-preserved : goal.tasks-preserved
tasks-preserved c = record {
  size = c.in_ok-do_task.ensures.size ∙ sym (ap (λ (s : State). length s.met) c.in-Some.ensures) ∙ c.tasks.invariant.size;
  reads = goes_on-trans c.args.entries.now (at_first c.args.first (length c.args.entries.now)) c.tasks.walk c.do_task.new.self
      c.tasks.invariant.reads
      (subst (λ (s : State). GoesOn c.args.entries.now s c.do_task.new.self) (sym c.in-Some.ensures) c.in_ok-do_task.ensures.ok);
}

-- the next task refuses
pub returns-in_err-do_task-clause-err : goal.returns-in_err-do_task-clause-err
returns-in_err-do_task-clause-err c =
    let h = refused c.args.entries.now c.args.first c.tasks.walk c.in_err-do_task.field-0.0 c.requires c.tasks.invariant.reads
    (subst (λ (s : State). RefusesStep c.args.entries.now s c.in_err-do_task.field-0.0) (sym c.in-Some.ensures) c.in_err-do_task.ensures.err) in
    search rules

-- no task is left
pub returns-clause-ok : goal.returns-clause-ok
returns-clause-ok c =
    let none : (c.tasks.walk.tasks ≡ []) × (c.next_task.new.self ≡ c.tasks.walk) = c.in_default.ensures in
    subst (ListsTree c.args.entries.now c.args.first) (sym (c.into_items.ensures ∙ ap (λ (s : State). s.items) none.1))
    (all_read c.args.entries.now c.args.first c.tasks.walk c.requires c.tasks.invariant.reads none.0)
