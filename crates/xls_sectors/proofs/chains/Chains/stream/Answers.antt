use Rattle.std.proofs.Common.{rules, ◌≡◌, ◌≢◌, List, ℕ, subst}
use Rattle.xls_sectors.specs.declared.error.SectorFault.TheVariants as faults
use Rattle.std.specs.Cow.{cow_slice_items}
use Rattle.xls_sectors.specs.Reading.{Gives}
use Rattle.xls_sectors.specs.Streams.{next_in, Stream, stream_of, IsAdjacent}
use Rattle.xls_sectors.proofs.ReadLemmas.{chain_is, stream_read, gives_is, gives_whole}
use Rattle.xls_sectors.proofs.chains.Chains.stream.Goals as goal

pub returns-clause-whole : goal.returns-clause-whole
returns-clause-whole c =
    let space = c.args.self.now in
    let chain = c.in_ok-chain.chain in
    let some : c.args.size ≢ 0 = search rules in
    let exact : Gives cow_slice_items c.stream_in.result (Stream space c.args.first c.args.size) =
    gives_is cow_slice_items c.stream_in.result (stream_of space c.args.first c.args.size chain.sectors.items chain.after) (Stream space c.args.first c.args.size)
    c.stream_in.ensures.exact (stream_read space c.args.first c.args.size chain.sectors.items chain.after some c.in_ok-chain.ensures.exact) in
    gives_whole cow_slice_items space c.args.first c.args.size c.stream_in.result exact

pub returns-clause-borrowed : goal.returns-clause-borrowed
returns-clause-borrowed c = λ sectors after stops adjacent.
    let space = c.args.self.now in
    let chain = c.in_ok-chain.chain in
    let same : sectors ≡ chain.sectors.items = chain_is (next_in space) c.args.first (faults.Loop space.table c.args.first)
    (stream_of space c.args.first c.args.size) chain.sectors.items sectors chain.after after c.in_ok-chain.ensures.exact stops in
    c.stream_in.ensures.borrowed (subst (λ (ss : List ℕ). IsAdjacent space c.args.size ss) same adjacent)
