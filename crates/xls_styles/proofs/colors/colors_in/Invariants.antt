use Rattle.std.proofs.Common.{◌≡◌, ◌++◌}
use Rattle.xls_styles.specs.Colors.{colors_in}
use Rattle.xls_styles.proofs.colors.colors_in.Given as goal

-- those so far and those that are left are all
abbrev pub invariant-colors : goal.invariant-colors
invariant-colors l = l.found.items ++ colors_in l.left l.rest ≡ colors_in l.count l.bytes

abbrev pub decreases-colors : goal.decreases-colors
decreases-colors l = l.left
