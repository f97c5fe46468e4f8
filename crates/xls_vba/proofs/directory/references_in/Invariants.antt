use Rattle.std.proofs.Common.{◌≡◌, ◌++◌, List, length}
use Rattle.xls_vba.specs.Items.{Element, ProjectHead}
use Rattle.xls_vba.specs.References.{reference_view, reference_views, references_of, all_with}
use Rattle.xls_vba.proofs.directory.references_in.Given as goal

-- these items are at the start, and with any more the references are those of all
abbrev pub invariant-items : goal.invariant-items
invariant-items l = (es : List Element) × ProjectHead l.page l.bytes es l.rest
    × ((more : List Element) → all_with (reference_views l.listing.listed.items) (reference_view l.listing.current) more ≡ references_of (es ++ more))

abbrev pub decreases-items : goal.decreases-items
decreases-items l = length l.rest
