use Rattle.std.proofs.Common.{◌≡◌, ℕ, ◌+◌, List, drop, sym, ◌∙◌, ap, arith}
use Rattle.std.specs.Option.{option_map}
use Rattle.std.proofs.lemmas.List.{drop-drop}
use Rattle.xls_shown_ptg.specs.Reading.{shown_of}
use Rattle.xls_shown_refs.specs.Items.{before, items}
use Rattle.xls_shown_refs.specs.Views.{item_view, items_view, origin_view}
use Rattle.xls_shown_refs.proofs.ItemLemmas.{items_one, push_step}
use Rattle.xls_shown_refs.proofs.items.push_items.Goals as goal

pub tokens-preserved : goal.tokens-preserved
tokens-preserved c =
    let o = origin_view c.args.origin in
    let more = c.in-Ok.more in
    let left : c.split_at-in-tokens.result.1.now ≡ drop (1 + more) c.tokens.rest.now =
    c.split_at-in-tokens.ensures.back ∙ (ap (drop more) c.split_at.ensures.back ∙ drop-drop more 1 c.tokens.rest.now) in
    push_step (items_view c.tokens.out.items) (items_view c.push_some.new.out.items) (option_map item_view c.token_item.result)
    (items o c.tokens.rest.now 0) (items o c.split_at-in-tokens.result.1.now 0) _ c.in_ok-push_some.ensures
    (items_one o c.tokens.rest.now (shown_of c.in-Ok.token) more (omega arith) c.in-Ok.ensures.exact
    ∙ (ap (λ i. before i (items o (drop (1 + more) c.tokens.rest.now) 0)) (sym c.token_item.ensures)
    ∙ ap (λ (x : List ℕ). before (option_map item_view c.token_item.result) (items o x 0)) (sym left))) c.tokens.invariant
