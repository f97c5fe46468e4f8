use Rattle.std.proofs.Common.{List, ◌++◌, ◌∙◌, refl, sym, ap, subst}
use Rattle.xls_shown_refs.specs.declared.citing.Citing.TheInside.{Inside}
use Rattle.xls_shown_refs.specs.Citations.{number_items}
use Rattle.xls_shown_refs.specs.Items.{Item}
use Rattle.xls_shown_refs.specs.Origins.{Citing}
use Rattle.xls_shown_refs.specs.Views.{items_view}
use Rattle.xls_shown_refs.specs.Walk.{IsStep, waiting}
use Rattle.xls_shown_refs.specs.declared.items.Item.{Item as ItemFields}
use Rattle.xls_shown_refs.proofs.FollowLemmas.{all_followed, at_first, fewer_left, next_of, one_followed}
use Rattle.xls_shown_refs.proofs.citations.follow.Goals as goal

pub names-init : goal.names-init
names-init c =
    at_first c.args.citing.now c.args.items.now.items c.args.walk.now c.requires.none c.requires.sound c.requires.followed

pub names-smaller : goal.names-smaller
names-smaller c =
    let names = ap (λ (x : Citing). x.here.names) (sym c.citing.view_is) ∙ ap (λ (x : Inside). x.here.names) (sym c.citing-inside.view_is) in
    let next = next_of c.args.citing.now c.names.invariant.names in
    let step = subst (λ o. IsStep c.args.citing.now next c.names.walk c.next_name.new.self o) c.in-Some.is
    (c.in_ok-number.ensures c.args.citing.now next names c.names.invariant.sound) in
    fewer_left c.args.citing.now next c.names.walk c.next_name.new.self (record c.next_name.new.self { pending = c.put_before.new.pending })
    c.in-Some.number step refl

pub names-preserved : goal.names-preserved
names-preserved c =
    let citing = c.args.citing.now in
    let names = ap (λ (x : Citing). x.here.names) (sym c.citing.view_is) ∙ ap (λ (x : Inside). x.here.names) (sym c.citing-inside.view_is) in
    let next = next_of citing c.names.invariant.names in
    let step = subst (λ o. IsStep citing next c.names.walk c.next_name.new.self o) c.in-Some.is
    (c.in_ok-number.ensures citing next names c.names.invariant.sound) in
    let waits = c.in_ok-put_before.ensures.moved
    ∙ ap (λ (x : List Item). x ++ waiting c.next_name.new.self.pending.items)
    (c.in_ok-push_name.ensures ∙ ap (λ (x : List ItemFields). items_view x ++ number_items citing c.in-Some.number) c.names.invariant.none) in
    one_followed citing c.names.items.items c.put_before.new.items.items c.args.walk.now c.names.walk c.next_name.new.self _ c.in-Some.number
    c.names.invariant step c.in_ok-put_before.ensures.none refl refl refl waits

pub returns : goal.returns
returns c =
    let citing = c.args.citing.now in
    let names = ap (λ (x : Citing). x.here.names) (sym c.citing.view_is) ∙ ap (λ (x : Inside). x.here.names) (sym c.citing-inside.view_is) in
    let next = next_of citing c.names.invariant.names in
    let step = subst (λ o. IsStep citing next c.names.walk c.next_name.new.self o) c.in_default.is
    (c.in_ok-number.ensures citing next names c.names.invariant.sound) in
    all_followed citing c.names.items.items c.args.walk.now c.names.walk c.next_name.new.self c.names.invariant step
