use Rattle.std.proofs.Common.{◌≡◌, ℕ, sym, ◌∙◌, ap, subst}
use Rattle.xls_compound.specs.declared.tasks.Task.TheVariants as tasks
use Rattle.xls_compound.specs.DirectoryEntries.{Entry}
use Rattle.xls_compound.specs.Steps.{before, after_meeting, GoesOn}
use Rattle.xls_compound.proofs.StepLemmas.{skipped, visited}
use Rattle.xls_compound.proofs.walk.Walk.visit.Goals as goal

-- no number, no tree
pub returns-then-number-eq-NONE-clause-ok : goal.returns-then-number-eq-NONE-clause-ok
returns-then-number-eq-NONE-clause-ok c =
    skipped c.args.entries.now c.args.number c.args.parent c.args.self.now c.if-number-eq-NONE.true

-- an entry that is met, and what is left of it
pub returns-clause-ok : goal.returns-clause-ok
returns-clause-ok c =
    let entry = c.in_ok-entry.entry in
    let left : c.entry.inside.left ≡ entry.left = ap (λ (e : Entry). e.left) c.entry.view_is in
    let state : c.put-2.new.self ≡ before (tasks.Tree entry.left c.args.parent) (before (tasks.Rest entry c.args.parent) (after_meeting c.args.number c.args.self.now)) =
    c.in_ok-put-2.ensures.ok ∙ ap (λ (n : ℕ). before (tasks.Tree n c.args.parent) c.put.new.self) left
    ∙ ap (before (tasks.Tree entry.left c.args.parent)) (c.in_ok-put.ensures.ok ∙ ap (before (tasks.Rest entry c.args.parent)) c.in_ok-entry.ensures.ok) in
    subst (GoesOn c.args.entries.now (before (tasks.Tree c.args.number c.args.parent) c.args.self.now)) (sym state)
    (visited c.args.entries.now c.args.number c.args.parent entry c.args.self.now c.if-number-eq-NONE.false c.in_ok-entry.ensures.is_there
    (λ met marks. sym (c.in_ok-entry.ensures.exact met marks)))
