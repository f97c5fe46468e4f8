use Rattle.std.proofs.Common.{refl, subst}
use Rattle.xls_view.specs.Viewing.{IsViewed}
use Rattle.xls_open.specs.Workbook.{rules_of}
use Rattle.xls_open.specs.declared.options.XlsOptions.{XlsOptions}
use Rattle.xls_arrays.specs.Arrays.{empty, laid, with_cell_laid}
use Rattle.xls_arrays.specs.Held.{RefusesStream, ShowsStream}
use Rattle.xls_arrays.specs.Shown.{IsShownHeld}
use Rattle.xls_arrays.proofs.HeldLemmas.{bytes-refused, err-as}
use Rattle.xls_arrays.proofs.ShownLemmas.{index-refused}
use Rattle.xls_arrays.proofs.shown.lay_shown.Goals as goal

pub returns-in_err-refuse_bytes-clause-err : goal.returns-in_err-refuse_bytes-clause-err
returns-in_err-refuse_bytes-clause-err c =
    let stream = c.args.stream.now in
    err-as (RefusesStream c.args.options.now stream) c.from_residual.result _ c.from_residual.ensures.1
    (bytes-refused c.args.options.now stream _ c.in_err-refuse_bytes.ensures.err)

pub returns-in_err-lay_shown_sheet-clause-err : goal.returns-in_err-lay_shown_sheet-clause-err
returns-in_err-lay_shown_sheet-clause-err c =
    let stream = c.args.stream.now in
    let view = c.in_ok-view.view in
    let shows : ShowsStream c.args.options.now stream view =
    record {
      plain = c.in_ok-refuse_bytes.ensures.ok;
      viewed = subst (λ (o : XlsOptions). IsViewed (rules_of o) stream view) c.in_ok-reader.ensures c.in_ok-view.ensures.ok;
    } in
    err-as (RefusesStream c.args.options.now stream) c.from_residual-in_err-lay_shown_sheet.result _
    c.from_residual-in_err-lay_shown_sheet.ensures.1
    (index-refused c.args.options.now stream view c.requires shows _ c.in_err-lay_shown_sheet.ensures.err)

pub returns-clause-ok : goal.returns-clause-ok
returns-clause-ok c =
    λ h.
    let stream = c.args.stream.now in
    let view = c.in_ok-view.view in
    let shows : ShowsStream c.args.options.now stream view =
    record {
      plain = c.in_ok-refuse_bytes.ensures.ok;
      viewed = subst (λ (o : XlsOptions). IsViewed (rules_of o) stream view) c.in_ok-reader.ensures c.in_ok-view.ensures.ok;
    } in
    let shown = c.in_ok-lay_shown_sheet.ensures.ok in
    let a = laid with_cell_laid empty shown.0 in
    let held : IsShownHeld c.args.options.now stream c.has_1904_epoch.result a =
    record {
      view = view;
      shows = shows;
      there = c.in_ok-lay_shown_sheet.ensures.there;
      entries = shown.0;
      shown = shown.1;
      arrays = refl;
      epoch = c.has_1904_epoch.ensures;
    } in
    (a, held, shown.2 empty h)
