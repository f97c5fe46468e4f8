use Rattle.std.proofs.Common.{inl, inr, subst, sym}
use Rattle.xls_meaning.specs.Reading.{BookView}
use Rattle.xls_report.specs.Texts.{IsCsvOf, IsMissingOf}
use Rattle.xls_report.proofs.EndingLemmas.{either-as}
use Rattle.xls_command.proofs.perform.write_named.Goals as goal

pub returns-in-Ok : goal.returns-in-Ok
returns-in-Ok g c =
    let name = c.args.name.now in
    let opened = c.in-Ok.ensures.opened in
    either-as _ _ c.write_csv.result
    (λ text is. (opened.0, opened.1, subst (λ (v : BookView). IsCsvOf name v text) (sym opened.2) is))
    (λ text is. inr (opened.0, opened.1, subst (λ (v : BookView). IsMissingOf name v text) (sym opened.2) is))
    c.write_csv.ensures

pub returns-in-Err : goal.returns-in-Err
returns-in-Err g c =
    either-as _ _ c.write_refusal.result (λ text no. absurd no)
    (λ text x. inl (c.in-Err.error, c.in-Err.ensures.fault x.0, x.1)) c.write_refusal.ensures
