use Rattle.std.proofs.Common.{Err, Ok, length, refl, rules}
use Rattle.std.proofs.lemmas.Result.{err_from_is_err_and}
use Rattle.xls_biff.specs.Walking.{group_of}
use Rattle.xls_meaning.specs.GlobalsTable.{shared_texts, strings_record}
use Rattle.xls_open.proofs.RecordLemmas.{fine, refused, table_counted}
use Rattle.xls_open.proofs.globals_record.RecordUnder.sst.Goals as goal

pub returns-in_err-skip_sst : goal.returns-in_err-skip_sst
returns-in_err-skip_sst c =
    let r = c.args.self.now.record.now in
    let e = c.in_err-skip_sst.field-0.0 in
    let p = err_from_is_err_and c.from_residual.result c.from_residual.ensures.1 in
    record {
      plain = search rules;
      table = λ typ page shared h. rw (p.1, p.2) (refused strings_record (λ t. tt) (shared_texts (length r.body.now) shared) e (table_counted (group_of r) shared (Err e) h c.in_err-skip_sst.ensures));
      sheet = search rules;
    }

pub returns : goal.returns
returns c =
    let r = c.args.self.now.record.now in
    record {
      plain = search rules;
      table = λ typ page shared h. (fine strings_record (λ t. tt) (shared_texts (length r.body.now) shared) tt (table_counted (group_of r) shared (Ok c.in_ok-skip_sst.field-0) h c.in_ok-skip_sst.ensures), (shared, h, refl));
      sheet = search rules;
    }
