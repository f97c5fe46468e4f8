use Rattle.std.proofs.Common.{refl, inr}
use Rattle.xls_record.specs.declared.error.XlsError.TheVariants.{WorksheetNotFound}
use Rattle.xls_report.specs.Faults.{fault_line}
use Rattle.xls_report.specs.Texts.{IsMissingLine}
use Rattle.xls_report.proofs.EndingLemmas.{either-memory, either-stopped}
use Rattle.xls_report.proofs.csv.write_missing.Goals as goal

pub returns-in_err-from_str : goal.returns-in_err-from_str
returns-in_err-from_str g c =
    either-memory (λ _. ⊥) (IsMissingLine c.args.name.now) _ c.from_residual.result c.from_residual.ensures.1

pub returns-in_err-write_fault : goal.returns-in_err-write_fault
returns-in_err-write_fault g c =
    let a = c.from_residual-in_err-write_fault in
    let s = c.in_ok-from_str in
    either-stopped (λ _. ⊥) (IsMissingLine c.args.name.now) a.result a.ensures.1 (inr (s.field-0, s.ensures.ok, refl)) c.in_err-write_fault.ensures

pub returns : goal.returns
returns g c =
    let s = c.in_ok-from_str in
    (fault_line (WorksheetNotFound s.field-0), (s.field-0, s.ensures.ok, refl), c.in_ok-write_fault.ensures)
