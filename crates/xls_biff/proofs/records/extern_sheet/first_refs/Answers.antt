use Rattle.std.proofs.Common.{◌∙◌, rules, to_z, of_z, w16, FitsSigned}
use Rattle.std.proofs.lemmas.Int.{to_z-of_z}
use Rattle.xls_biff.specs.Records.ExternSheet.{ref_at}
use Rattle.xls_biff.proofs.ListLemmas.{listed_more}
use Rattle.xls_biff.proofs.records.extern_sheet.first_refs.Goals as goal

pub loop-i-preserved : goal.loop-i-preserved
loop-i-preserved c =
    let number = c.i16_at.result in
    let fits : FitsSigned w16 number = search rules in
    listed_more (ref_at c.args.body.now) c.loop-i.refs c.push.new.self c.loop-i.i (to_z w16 (of_z w16 number)) c.loop-i.invariant c.in_ok-push.ensures.ok (to_z-of_z w16 number fits ∙ c.i16_at.ensures)
