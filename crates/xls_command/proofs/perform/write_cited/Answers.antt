use Rattle.std.proofs.Common.{inl, refl, Some}
use Rattle.xls_listing.specs.Listing.{exact_lines, ref_lines}
use Rattle.xls_refs.specs.Views.{cited_in}
use Rattle.xls_report.proofs.EndingLemmas.{either-as, either-stopped}
use Rattle.xls_command.specs.Outputs.{IsOutput, IsRefusalText}
use Rattle.xls_command.specs.declared.command.Command.TheVariants.{Refs}
use Rattle.xls_listing.proofs.ExactLemmas.{lines-stop, lines-wrote}
use Rattle.xls_command.proofs.perform.write_cited.Goals as goal

pub returns-in_err-write_ref_list-in-Ok : goal.returns-in_err-write_ref_list-in-Ok
returns-in_err-write_ref_list-in-Ok g c =
    let view = c.in-Ok.view in
    either-stopped (IsOutput Refs (Some c.args.bytes.now)) (IsRefusalText Refs (Some c.args.bytes.now)) c.from_residual.result c.from_residual.ensures.1
    (inl (cited_in view, c.in-Ok.ensures.cited, refl))
    (lines-stop (ref_lines (cited_in view)) _ _ _ c.in_err-write_ref_list-in-Ok.ensures)

pub returns-in_ok-write_ref_list-in-Ok : goal.returns-in_ok-write_ref_list-in-Ok
returns-in_ok-write_ref_list-in-Ok g c =
    let view = c.in-Ok.view in (
      exact_lines (ref_lines (cited_in view)),
      (cited_in view, c.in-Ok.ensures.cited, refl),
      lines-wrote (ref_lines (cited_in view)) _ _ c.in_ok-write_ref_list-in-Ok.ensures,
    )

pub returns-in-Err : goal.returns-in-Err
returns-in-Err g c =
    either-as _ _ c.write_refusal.result (λ text no. absurd no)
    (λ text x. (c.in-Err.error, c.in-Err.ensures.fault x.0, x.1)) c.write_refusal.ensures
