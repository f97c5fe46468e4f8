use Rattle.std.proofs.Common.{refl, rules}
use Rattle.std.proofs.lemmas.Result.{err_from_is_err_and}
use Rattle.xls_biff.specs.Records.BoundSheet.{bound_sheet_at}
use Rattle.xls_meaning.specs.GlobalsTable.{sheet_record}
use Rattle.xls_open.proofs.RecordLemmas.{fine, refused}
use Rattle.xls_open.proofs.globals_record.RecordUnder.bound_sheet.Goals as goal

pub returns-in_err-check_sheet_metadata : goal.returns-in_err-check_sheet_metadata
returns-in_err-check_sheet_metadata c =
    let r = c.args.self.now in
    let p = err_from_is_err_and c.from_residual.result c.from_residual.ensures.1 in
    record {
      plain = search rules;
      table = search rules;
      sheet = λ typ page. rw (p.1, p.2) (refused (λ q. sheet_record q.1) (λ q. q.0) (bound_sheet_at page r.biff r.record.now.body.now) _ (c.in_err-check_sheet_metadata.ensures page));
    }

pub returns : goal.returns
returns c =
    let r = c.args.self.now in
    record {
      plain = search rules;
      table = search rules;
      sheet = λ typ page. (fine (λ q. sheet_record q.1) (λ q. q.0) (bound_sheet_at page r.biff r.record.now.body.now) _ (c.in_ok-check_sheet_metadata.ensures page), (refl, refl));
    }
