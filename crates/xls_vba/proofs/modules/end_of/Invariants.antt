use Rattle.std.proofs.Common.{◌≡◌, length}
use Rattle.xls_vba.specs.Modules.{end_from}
use Rattle.xls_vba.proofs.modules.end_of.Given as goal

-- the end is that of the bytes left
abbrev pub invariant-numbers : goal.invariant-numbers
invariant-numbers l = end_from l.rest ≡ end_from l.bytes

abbrev pub decreases-numbers : goal.decreases-numbers
decreases-numbers l = length l.rest
