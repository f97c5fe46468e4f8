use Rattle.std.proofs.Common.{◌≡◌}
use Rattle.xls_strings.specs.Texts.{text_of}
use Rattle.xls_links.specs.Monikers.{joined_at}
use Rattle.xls_links.proofs.monikers.joined_at.Given as goal

abbrev pub invariant-monikers : goal.invariant-monikers
invariant-monikers l =
    joined_at l.page l.left l.kind (text_of l.text) l.rest ≡ joined_at l.page l.initial.left l.initial.kind (text_of l.initial.text) l.initial.rest

abbrev pub decreases-monikers : goal.decreases-monikers
decreases-monikers l = l.left
