use Rattle.std.proofs.Common.{◌≤◌, ◌-◌, vec_len}
use Rattle.xls_sectors.specs.Chains.{Path}
use Rattle.xls_sectors.specs.Streams.{next_in}
use Rattle.xls_sectors.proofs.chains.Chains.chain_from.Given as goal

-- the sectors so far lead on to the number
abbrev pub invariant-sectors : goal.invariant-sectors
invariant-sectors l = Path (next_in l.self) l.first l.sectors.items l.number × (vec_len l.sectors ≤ l.most)

abbrev pub decreases-sectors : goal.decreases-sectors
decreases-sectors l = l.most - vec_len l.sectors
