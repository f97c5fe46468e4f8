use Rattle.std.proofs.Common.{rules, ◌≡◌, ◌++◌, ◌∷◌, [], sym}
use Rattle.xls_sectors.specs.Streams.{sector_at}
use Rattle.xls_sectors.proofs.SpaceLemmas.{chain_size_last}
use Rattle.xls_sectors.proofs.chains.Chains.size_of_chain.Goals as goal

pub returns : goal.returns
returns c =
    let whole : c.args.sectors.now ≡ c.in-Some.others.now ++ c.in-Some.last.now ∷ [] = search rules in
    let there : c.sector.result.now ≡ sector_at c.args.self.now c.in-Some.last.now = search rules in
    let size : c.self.inside.sector_size ≡ c.args.self.now.sector_size = search rules in
    rw (whole, there, size) (sym (chain_size_last c.args.self.now c.in-Some.others.now c.in-Some.last.now))
