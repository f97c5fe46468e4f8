-- The items that wait.
use Rattle.std.proofs.Common.{◌≡◌, List, [], ◌∷◌, ◌++◌, reverse, sym, ◌∙◌, ap, append_assoc}
use Rattle.std.proofs.lemmas.List.{map-append, reverse-append}
use Rattle.xls_shown_refs.specs.Items.{Item}
use Rattle.xls_shown_refs.specs.Views.{item_view, items_view}
use Rattle.xls_shown_refs.specs.Walk.{waiting}
use Rattle.xls_shown_refs.specs.declared.items.Item.{Item as ItemFields}

-- one that was put to the end is the next one
pub waiting_push : (items all : List ItemFields) (i : ItemFields) → all ≡ items ++ i ∷ [] → waiting all ≡ item_view i ∷ waiting items
waiting_push items all i e =
    ap waiting e
    ∙ (ap (λ (x : List Item). reverse x) (map-append item_view items (i ∷ [])) ∙ reverse-append (items_view items) (item_view i ∷ []))

-- one is moved
pub move_step : (old new pending more : List ItemFields) (i : ItemFields) (all : List Item) → old ≡ new ++ i ∷ [] → more ≡ pending ++ i ∷ []
    → items_view old ++ waiting pending ≡ all → items_view new ++ waiting more ≡ all
move_step old new pending more i all e f g =
    ap (λ (x : List Item). items_view new ++ x) (waiting_push pending more i f)
    ∙ (sym (append_assoc (items_view new) (item_view i ∷ []) (waiting pending))
    ∙ (ap (λ (x : List Item). x ++ waiting pending) (sym (map-append item_view new (i ∷ [])) ∙ sym (ap items_view e)) ∙ g))
