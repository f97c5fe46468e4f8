use Rattle.std.proofs.Common.{◌≡◌, List, ℕ, subst}
use Rattle.xls_sectors.specs.declared.error.SectorFault.TheVariants as faults
use Rattle.xls_sectors.specs.Streams.{next_in, chain_of, chain_size, IsAdjacent}
use Rattle.xls_sectors.proofs.ReadLemmas.{chain_is}
use Rattle.xls_sectors.proofs.chains.Chains.chain.Goals as goal

pub returns-clause-borrowed : goal.returns-clause-borrowed
returns-clause-borrowed c = λ sectors after stops adjacent.
    let space = c.args.self.now in
    let chain = c.in_ok-chain.chain in
    let same : sectors ≡ chain.sectors.items = chain_is (next_in space) c.args.first (faults.Loop space.table c.args.first)
    (chain_of space) chain.sectors.items sectors chain.after after c.in_ok-chain.ensures.exact stops in
    c.chain_in.ensures.borrowed (subst (λ (ss : List ℕ). IsAdjacent space (chain_size space ss) ss) same adjacent)
