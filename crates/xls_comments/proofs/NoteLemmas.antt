-- Items, one at a time.
use Rattle.std.proofs.Common.{◌≡◌, List, ◌∷◌, length, ◌<◌, arith}
use Rattle.xls_comments.specs.Items.{Item}

pub one_item_fewer : (before after : List Item) (item : Item) → before ≡ item ∷ after → length after < length before
one_item_fewer before after item e = rw e (omega arith)
