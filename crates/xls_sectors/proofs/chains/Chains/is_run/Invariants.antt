use Rattle.std.proofs.Common.{◌≡◌, drop}
use Rattle.xls_sectors.specs.Streams.{is_run}
use Rattle.xls_sectors.proofs.chains.Chains.is_run.Given as goal

-- what is left decides
abbrev pub invariant-sectors : goal.invariant-sectors
invariant-sectors l = is_run l.self.sector_size l.left l.expected (drop l.sector-index l.sectors) ≡ is_run l.self.sector_size l.size l.first l.sectors
