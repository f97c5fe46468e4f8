use Rattle.std.proofs.Common.{rules, ◌≡◌, ◌++◌, Ok, Err, [], sym, min, get_or}
use Rattle.std.proofs.lemmas.Result.{err_from_is_err_and}
use Rattle.std.proofs.lemmas.List.{drop_all}
use Rattle.xls_sectors.specs.Streams.{part_of, gathered}
use Rattle.xls_sectors.proofs.SpaceLemmas.{with_prefix, gathered_step, gathered_stop, gathered_done}
use Rattle.xls_sectors.proofs.chains.Chains.gather.Goals as goal

pub returns-in_err-part : goal.returns-in_err-part
returns-in_err-part c =
    let p = err_from_is_err_and c.from_residual-in_err-part.result c.from_residual-in_err-part.ensures.1 in
    let all = c.args.sectors.now in
    let least : c.min-wanted.result ≡ min c.sectors.left c.args.self.now.sector_size = search rules in
    let fault : part_of c.args.self.now c.min-wanted.result (get_or all c.sectors.sector-index 0) ≡ Err c.in_err-part.field-0.0 = search rules in
    rw (p.1, p.2) (sym (gathered_stop c.args.self.now c.sectors.left c.min-wanted.result c.sectors.sector-index c.sectors.bytes.items all _ c.sectors-test.true least c.sectors.invariant c.in_err-part.field-0.0 fault))

pub sectors-preserved : goal.sectors-preserved
sectors-preserved c =
    let all = c.args.sectors.now in
    let least : c.min-wanted.result ≡ min c.sectors.left c.args.self.now.sector_size = search rules in
    let part : part_of c.args.self.now c.min-wanted.result (get_or all c.sectors.sector-index 0) ≡ Ok c.in_ok-part.part.now = search rules in
    let copied : c.extend_from_slice.new.self.items ≡ c.sectors.bytes.items ++ c.in_ok-part.part.now = search rules in
    rw copied (gathered_step c.args.self.now c.sectors.left c.min-wanted.result c.sectors.sector-index c.sectors.bytes.items all _ c.sectors-test.true least c.sectors.invariant c.in_ok-part.part.now part)

pub returns : goal.returns
returns c =
    let all = c.args.sectors.now in
    let done : with_prefix c.sectors.bytes.items (gathered c.args.self.now c.sectors.left []) ≡ gathered c.args.self.now c.args.size all =
    rw (drop_all c.sectors.sector-index all c.sectors-test.false) at c.sectors.invariant in
    sym (gathered_done c.args.self.now c.sectors.left c.sectors.bytes.items _ done)
