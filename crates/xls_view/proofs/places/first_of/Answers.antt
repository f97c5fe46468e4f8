use Rattle.std.proofs.Common.{sym}
use Rattle.xls_biff.specs.Walking.{group_of}
use Rattle.xls_view.proofs.PlaceLemmas.{first_begun, first_cut}
use Rattle.xls_view.proofs.places.first_of.Goals as goal

pub returns-in-Err : goal.returns-in-Err
returns-in-Err c =
    let steps = rw c.in-Err.is at c.in-Some.ensures.steps in
    sym (first_cut c.args.records.now steps.0 c.requires steps.2)

pub returns : goal.returns
returns c =
    sym (first_begun c.args.records.now (group_of c.in-Ok.record) c.next.new.self c.requires (rw c.in-Ok.is at c.in-Some.ensures.steps))
