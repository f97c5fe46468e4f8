use Rattle.std.proofs.Common.{rules, ◌≡◌, ◌*◌, ◌+◌, ◌≤◌, true, length, take, drop, IfSome}
use Rattle.xls_sectors.specs.Streams.{is_run}
use Rattle.xls_sectors.proofs.RunLemmas.{run_found}
use Rattle.xls_sectors.proofs.chains.Chains.adjacent.Goals as goal

pub returns-clause-found : goal.returns-clause-found
returns-clause-found c =
    let space = c.args.self.now in
    let first = c.in_ok-first.field-0.now in
    let run : is_run space.sector_size c.args.size first c.args.sectors.now ≡ true = search rules in
    let found : IfSome c.bytes_at.result (λ bytes. (first * space.sector_size + c.args.size ≤ length space.area) × (bytes.now ≡ take c.args.size (drop (first * space.sector_size) space.area))) = search rules in
    run_found space c.args.size first c.args.sectors.now c.bytes_at.result run found
