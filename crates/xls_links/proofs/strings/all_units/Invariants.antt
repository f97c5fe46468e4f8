use Rattle.std.proofs.Common.{◌≡◌, ◌++◌, length}
use Rattle.xls_text.specs.Pages.{units_of}
use Rattle.xls_links.proofs.strings.all_units.Given as goal

abbrev pub invariant-units : goal.invariant-units
invariant-units l = l.units.items ++ units_of l.rest ≡ units_of l.initial.rest

abbrev pub decreases-units : goal.decreases-units
decreases-units l = length l.rest
