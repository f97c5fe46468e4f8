use Rattle.std.proofs.Common.{rules, ◌≡◌, ◌∷◌, ◌∙◌, ap, subst}
use Rattle.std.specs.List.{list_any}
use Rattle.std.specs.Str.{chars}
use Rattle.xls_bytes.specs.Characters.{is}
use Rattle.xls_number_formats.specs.Grammar.{head_of}
use Rattle.xls_number_formats.specs.Walk.{Left, items_left, after_left}
use Rattle.xls_number_formats.proofs.WalkLemmas.{step_is, none_left, one_less}
use Rattle.xls_number_formats.proofs.walk.ItemsIterator.next.Goals as goal

pub invariant_of-self : goal.invariant_of-self
invariant_of-self c = λ closed.
    let rest = c.first_item-closes.ensures.exact.rest in
    ap (list_any (is 93)) rest ∙ none_left (is 93) (head_of c.self.inside.placed c.in_ok-c.c (chars c.in_ok-c.rest.now)).more (chars c.in_ok-c.rest.now) (c.first_item-closes.ensures.closed closed)

pub returns-clause-steps : goal.returns-clause-steps
returns-clause-steps c =
    let first = c.first_item-closes in
    let after : Left = record { placed = c.placed_after-self-inside.result; characters = chars first.result.0.rest.now } in
    subst (λ before. (items_left before ≡ (first.result.0.item, chars first.result.0.text.now) ∷ items_left after) × (after_left before ≡ after_left after))
    c.self.view_is (step_is _ _ _ _ _ _ c.in_ok-c.ensures.exact c.if-c-eq59.false first.ensures.exact c.placed_after-self-inside.ensures)

pub returns-clause-goes : goal.returns-clause-goes
returns-clause-goes c =
    let first = c.first_item-closes in
    let after : Left = record { placed = c.placed_after-self-inside.result; characters = chars first.result.0.rest.now } in
    let step = subst (λ before. items_left before ≡ (first.result.0.item, chars first.result.0.text.now) ∷ items_left after)
    c.self.view_is (step_is _ _ _ _ _ _ c.in_ok-c.ensures.exact c.if-c-eq59.false first.ensures.exact c.placed_after-self-inside.ensures).0 in
    let shorter = one_less c.args.self.now after _ step in
    search rules
