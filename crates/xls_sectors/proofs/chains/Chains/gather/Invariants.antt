use Rattle.std.proofs.Common.{◌≡◌, drop}
use Rattle.xls_sectors.specs.Streams.{gathered}
use Rattle.xls_sectors.proofs.SpaceLemmas.{with_prefix}
use Rattle.xls_sectors.proofs.chains.Chains.gather.Given as goal

-- what was copied, and what is left to copy
abbrev pub invariant-sectors : goal.invariant-sectors
invariant-sectors l = with_prefix l.bytes.items (gathered l.self l.left (drop l.sector-index l.sectors)) ≡ gathered l.self l.size l.sectors
