use Rattle.std.proofs.Common.{◌≡◌, ◌++◌, ◌-◌, ◌≤◌, length, take, drop}
use Rattle.xls_links.specs.Strings.{until_nul}
use Rattle.xls_links.proofs.strings.size_until_nul.Given as goal

abbrev pub invariant-bytes : goal.invariant-bytes
invariant-bytes l = (take l.size l.bytes ++ until_nul (drop l.size l.bytes) ≡ until_nul l.bytes) × (l.size ≤ length l.bytes)

abbrev pub decreases-bytes : goal.decreases-bytes
decreases-bytes l = length l.bytes - l.size
