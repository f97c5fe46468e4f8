use Rattle.std.proofs.Common.{ap, inl, sym, Some}
use Rattle.xls_meaning.specs.Reading.{BookView}
use Rattle.xls_listing.specs.Listing.{exact_lines, sheet_lines}
use Rattle.xls_report.proofs.EndingLemmas.{either-as, either-stopped}
use Rattle.xls_command.specs.Outputs.{IsOutput, IsRefusalText}
use Rattle.xls_command.specs.declared.command.Command.TheVariants.{Sheets}
use Rattle.xls_command.proofs.perform.write_sheet_lines.Goals as goal

pub returns-in_err-write_sheets-in-Ok : goal.returns-in_err-write_sheets-in-Ok
returns-in_err-write_sheets-in-Ok g c =
    let opened = c.in-Ok.ensures.opened in
    either-stopped (IsOutput Sheets (Some c.args.bytes.now)) (IsRefusalText Sheets (Some c.args.bytes.now)) c.from_residual.result c.from_residual.ensures.1
    (inl (opened.0, opened.1, ap (λ (book : BookView). exact_lines (sheet_lines book)) (sym opened.2))) c.in_err-write_sheets-in-Ok.ensures

pub returns-in_ok-write_sheets-in-Ok : goal.returns-in_ok-write_sheets-in-Ok
returns-in_ok-write_sheets-in-Ok g c =
    let opened = c.in-Ok.ensures.opened in
    (_, (opened.0, opened.1, ap (λ (book : BookView). exact_lines (sheet_lines book)) (sym opened.2)), c.in_ok-write_sheets-in-Ok.ensures)

pub returns-in-Err : goal.returns-in-Err
returns-in-Err g c =
    either-as _ _ c.write_refusal.result (λ text no. absurd no)
    (λ text x. (c.in-Err.error, c.in-Err.ensures.fault x.0, x.1)) c.write_refusal.ensures
