use Rattle.std.proofs.Common.{◌≡◌, ◌++◌, length}
use Rattle.xls_shown_refs.specs.Items.{items}
use Rattle.xls_shown_refs.specs.Views.{items_view, origin_view}
use Rattle.xls_shown_refs.proofs.items.push_items.Given as goal

-- what was found and what the tokens that are left cite is all
abbrev pub invariant-tokens : goal.invariant-tokens
invariant-tokens l =
    items_view l.out.items ++ items (origin_view l.fn.origin) l.rest 0
    ≡ items_view l.initial.out.items ++ items (origin_view l.fn.origin) l.fn.tokens 0

abbrev pub decreases-tokens : goal.decreases-tokens
decreases-tokens l = length l.rest
