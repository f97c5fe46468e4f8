-- Steps over items of which one may be refused.
use Rattle.std.proofs.Common.{◌≡◌, List, [], ◌∷◌, Some, Result, Ok, Err, subst}
use Rattle.std.specs.declared.alloc.AllocError.{AllocError}
use Rattle.xls_comments.specs.Items.{Item, ItemSteps, item_of}
use Rattle.xls_comments.specs.declared.items.CommentItem.{CommentItem}

-- an item is the first of those that are left
pub given : {before after : List Item} {r : Result CommentItem AllocError} {item : CommentItem} → r ≡ Ok item → ItemSteps before (Some r) after
    → before ≡ item_of item ∷ after
given {before} {after} is steps = subst (λ (r : Result CommentItem AllocError). ItemSteps before (Some r) after) is steps

-- memory ran out at the first of them
pub lost : {before after : List Item} {r : Result CommentItem AllocError} {e : AllocError} → r ≡ Err e → ItemSteps before (Some r) after
    → (first : Item) × (rest : List Item) × (before ≡ first ∷ rest) × (after ≡ [])
lost {before} {after} is steps = subst (λ (r : Result CommentItem AllocError). ItemSteps before (Some r) after) is steps
