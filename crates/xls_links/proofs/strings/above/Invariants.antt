use Rattle.std.proofs.Common.{◌≡◌, ◌++◌}
use Rattle.xls_strings.specs.Texts.{text_of}
use Rattle.xls_links.specs.Strings.{times_above}
use Rattle.xls_links.proofs.strings.above.Given as goal

abbrev pub invariant-times : goal.invariant-times
invariant-times l = text_of l.text ++ times_above l.left ≡ times_above l.initial.left

abbrev pub decreases-times : goal.decreases-times
decreases-times l = l.left
