use Rattle.std.proofs.Common.{inl, inr, refl}
use Rattle.xls_report.specs.Faults.{sound_line, fault_line}
use Rattle.xls_report.specs.Texts.{IsSoundLine, IsFirstLine}
use Rattle.xls_report.proofs.CheckLemmas.{first_checked, none_checked}
use Rattle.xls_report.proofs.EndingLemmas.{either-stopped}
use Rattle.xls_command.proofs.perform.write_check.Goals as goal

pub returns-in_err-write_sound-in-Ok : goal.returns-in_err-write_sound-in-Ok
returns-in_err-write_sound-in-Ok g c =
    let bytes = c.args.bytes.now in
    either-stopped (IsSoundLine bytes) (IsFirstLine bytes) c.from_residual.result c.from_residual.ensures.1 (inl (none_checked bytes c.requires.within c.in-Ok.ensures, refl)) c.in_err-write_sound-in-Ok.ensures

pub returns-in_ok-write_sound-in-Ok : goal.returns-in_ok-write_sound-in-Ok
returns-in_ok-write_sound-in-Ok g c =
    (sound_line, (none_checked c.args.bytes.now c.requires.within c.in-Ok.ensures, refl), c.in_ok-write_sound-in-Ok.ensures)

pub returns-in_err-write_fault-in-Err : goal.returns-in_err-write_fault-in-Err
returns-in_err-write_fault-in-Err g c =
    let bytes = c.args.bytes.now in
    let a = c.from_residual-in_err-write_fault-in-Err in
    either-stopped (IsSoundLine bytes) (IsFirstLine bytes) a.result a.ensures.1 (inr (c.in-Err.error, first_checked bytes c.in-Err.error c.requires.within c.in-Err.ensures, refl)) c.in_err-write_fault-in-Err.ensures

pub returns-in_ok-write_fault-in-Err : goal.returns-in_ok-write_fault-in-Err
returns-in_ok-write_fault-in-Err g c =
    let e = c.in-Err.error in
    (fault_line e, (e, first_checked c.args.bytes.now e c.requires.within c.in-Err.ensures, refl), c.in_ok-write_fault-in-Err.ensures)
