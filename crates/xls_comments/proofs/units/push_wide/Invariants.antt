use Rattle.std.proofs.Common.{◌≡◌, ◌++◌, take}
use Rattle.xls_text.specs.Pages.{units_of}
use Rattle.xls_comments.proofs.units.push_wide.Given as goal

abbrev pub invariant-units : goal.invariant-units
invariant-units l = l.units.items ++ take l.left (units_of l.rest) ≡ l.initial.units.items ++ take l.most (units_of l.bytes)

abbrev pub decreases-units : goal.decreases-units
decreases-units l = l.left
