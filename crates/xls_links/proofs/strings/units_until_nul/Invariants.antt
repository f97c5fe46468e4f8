use Rattle.std.proofs.Common.{◌≡◌, ◌++◌, length}
use Rattle.xls_text.specs.Pages.{units_of}
use Rattle.xls_links.specs.Strings.{until_nul}
use Rattle.xls_links.proofs.strings.units_until_nul.Given as goal

abbrev pub invariant-units : goal.invariant-units
invariant-units l = l.units.items ++ until_nul (units_of l.rest) ≡ until_nul (units_of l.initial.rest)

abbrev pub decreases-units : goal.decreases-units
decreases-units l = length l.rest
