use Rattle.std.proofs.Common.{◌≡◌, ℕ, Some, length, sym, ◌∙◌, ap, subst}
use Rattle.xls_compound.specs.declared.tasks.Task.TheVariants as tasks
use Rattle.xls_compound.specs.DirectoryEntries.{Entry, child_of}
use Rattle.xls_compound.specs.Items.{Item, item_of}
use Rattle.xls_compound.specs.Steps.{before, with_item, GoesOn}
use Rattle.xls_compound.proofs.StepLemmas.{went_on}
use Rattle.xls_compound.proofs.walk.Walk.go_on.Goals as goal

-- an entry that is listed, and what is left of it
pub returns-clause-ok : goal.returns-clause-ok
returns-clause-ok c =
    let entry = c.args.entry in
    let right : c.entry.inside.right ≡ entry.right = ap (λ (e : Entry). e.right) c.entry.view_is in
    let place : c.next_place-place.result ≡ length c.args.self.now.items = c.next_place-place.ensures in
    let item : c.in_ok-of.field-0 ≡ item_of c.args.parent entry = c.in_ok-of.ensures in
    let listed : c.list.new.self ≡ with_item (item_of c.args.parent entry) c.args.self.now =
    c.in_ok-list.ensures.ok ∙ ap (λ (i : Item). with_item i c.args.self.now) item in
    let put : c.put.new.self ≡ before (tasks.Tree entry.right c.args.parent) (with_item (item_of c.args.parent entry) c.args.self.now) =
    c.in_ok-put.ensures.ok ∙ ap (λ (n : ℕ). before (tasks.Tree n c.args.parent) c.list.new.self) right
    ∙ ap (before (tasks.Tree entry.right c.args.parent)) listed in
    let state : c.put-2.new.self ≡ before (tasks.Tree (child_of entry) (Some (length c.args.self.now.items))) (before (tasks.Tree entry.right c.args.parent) (with_item (item_of c.args.parent entry) c.args.self.now)) =
    c.in_ok-put-2.ensures.ok ∙ ap (λ (n : ℕ). before (tasks.Tree n (Some c.next_place-place.result)) c.put.new.self) c.child-child.ensures
    ∙ ap (λ (p : ℕ). before (tasks.Tree (child_of entry) (Some p)) c.put.new.self) place
    ∙ ap (before (tasks.Tree (child_of entry) (Some (length c.args.self.now.items)))) put in
    subst (GoesOn c.args.entries.now (before (tasks.Rest entry c.args.parent) c.args.self.now)) (sym state)
    (went_on c.args.entries.now entry c.args.parent c.args.self.now)
