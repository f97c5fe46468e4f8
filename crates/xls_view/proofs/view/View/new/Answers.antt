use Rattle.std.proofs.Common.{ap, arith, Err}
use Rattle.std.proofs.lemmas.Result.{err_from_is_err_and}
use Rattle.xls_record.specs.declared.error.XlsError.{XlsError}
use Rattle.xls_open.specs.Workbook.{rules_of}
use Rattle.xls_view.proofs.ViewLemmas.{globals_cause, one_fault}
use Rattle.xls_view.proofs.view.View.new.Goals as goal

-- a stream has one first fault
pub returns-in_err-check_sheets_of-in-Ok-clause-fault : goal.returns-in_err-check_sheets_of-in-Ok-clause-fault
returns-in_err-check_sheets_of-in-Ok-clause-fault c = λ e h.
    let p = err_from_is_err_and c.from_residual-in_err-check_sheets_of-in-Ok.result c.from_residual-in_err-check_sheets_of-in-Ok.ensures.1 in
    rw (p.1, p.2) (ap (λ (x : XlsError). Err x) (one_fault (rules_of c.args.options.now) c.args.bytes.now (λ i. omega (arith, c.type_inv.bytes i)) c.in_err-check_sheets_of-in-Ok.field-0.0 e c.in_err-check_sheets_of-in-Ok.ensures h))

pub returns-in_err-check_stream-in-Err-clause-fault : goal.returns-in_err-check_stream-in-Err-clause-fault
returns-in_err-check_stream-in-Err-clause-fault c = λ e h.
    let p = err_from_is_err_and c.from_residual-in_err-check_stream-in-Err.result c.from_residual-in_err-check_stream-in-Err.ensures.1 in
    rw (p.1, p.2) (ap (λ (x : XlsError). Err x) (one_fault (rules_of c.args.options.now) c.args.bytes.now (λ i. omega (arith, c.type_inv.bytes i)) c.in_err-check_stream-in-Err.field-0.0 e c.in_err-check_stream-in-Err.ensures h))

pub returns-in_ok-check_stream-in-Err-clause-cause : goal.returns-in_ok-check_stream-in-Err-clause-cause
returns-in_ok-check_stream-in-Err-clause-cause c =
    globals_cause (rules_of c.args.options.now) c.args.bytes.now (λ i. omega (arith, c.type_inv.bytes i)) c.in_ok-page.ensures.0 c.in-Err.error c.in-Err.ensures
