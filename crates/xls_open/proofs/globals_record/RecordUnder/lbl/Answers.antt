use Rattle.std.proofs.Common.{refl, rules}
use Rattle.std.proofs.lemmas.Result.{err_from_is_err_and}
use Rattle.xls_formula.specs.Defined.{lbl_at}
use Rattle.xls_meaning.specs.GlobalsTable.{name_record}
use Rattle.xls_open.proofs.RecordLemmas.{fine, refused}
use Rattle.xls_open.proofs.globals_record.RecordUnder.lbl.Goals as goal

pub returns-in_err-check_lbl : goal.returns-in_err-check_lbl
returns-in_err-check_lbl c =
    let r = c.args.self.now in
    let p = err_from_is_err_and c.from_residual.result c.from_residual.ensures.1 in
    record {
      plain = λ plain page. rw (p.1, p.2) (refused name_record (λ n. tt) (lbl_at page r.biff r.record.now.body.now) _ (c.in_err-check_lbl.ensures page));
      table = search rules;
      sheet = search rules;
    }

pub returns : goal.returns
returns c =
    let r = c.args.self.now in
    record {
      plain = λ plain page. (fine name_record (λ n. tt) (lbl_at page r.biff r.record.now.body.now) tt (c.in_ok-check_lbl.ensures page), refl);
      table = search rules;
      sheet = search rules;
    }
