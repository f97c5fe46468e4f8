use Rattle.std.proofs.Common.{sym}
use Rattle.std.proofs.lemmas.Result.{err_from_is_err_and}
use Rattle.xls_open.proofs.CheckLemmas.{forced_refused, globals_refused}
use Rattle.xls_open.proofs.check.check_stream.Goals as goal

pub returns-in_err-check_forced : goal.returns-in_err-check_forced
returns-in_err-check_forced c =
    let p = err_from_is_err_and c.from_residual.result c.from_residual.ensures.1 in
    rw (p.1, p.2) (forced_refused c.args.force_codepage c.args.max_cells c.args.bytes.now c.in_err-check_forced.field-0.0 c.in_err-check_forced.ensures)

pub returns-in_err-biff : goal.returns-in_err-biff
returns-in_err-biff c =
    let p = err_from_is_err_and c.from_residual-in_err-biff.result c.from_residual-in_err-biff.ensures.1 in
    rw (p.1, p.2) (globals_refused c.args.force_codepage c.args.max_cells c.args.bytes.now (sym c.in_ok-check_forced.ensures) c.in_err-biff.field-0.0 c.in_err-biff.ensures)

pub check_sheets_of-requires-clause-forced : goal.check_sheets_of-requires-clause-forced
check_sheets_of-requires-clause-forced c = sym c.in_ok-check_forced.ensures
