use Rattle.std.proofs.Common.{◌≡◌, ◌++◌, length}
use Rattle.xls_shown_refs.specs.Views.{items_view}
use Rattle.xls_shown_refs.specs.Walk.{waiting}
use Rattle.xls_shown_refs.proofs.walk.put_before.Given as goal

abbrev pub invariant-items : goal.invariant-items
invariant-items l =
    items_view l.items.items ++ waiting l.pending.items ≡ items_view l.initial.items.items ++ waiting l.initial.pending.items

abbrev pub decreases-items : goal.decreases-items
decreases-items l = length l.items.items
