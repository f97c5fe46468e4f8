use Rattle.std.proofs.Common.{refl, subst}
use Rattle.xls_view.specs.Viewing.{IsViewed}
use Rattle.xls_open.specs.Workbook.{rules_of}
use Rattle.xls_open.specs.declared.options.XlsOptions.{XlsOptions}
use Rattle.xls_arrays.specs.Arrays.{arrays_of, empty}
use Rattle.xls_arrays.specs.Held.{IsHeld, RefusesStream, ShowsStream}
use Rattle.xls_arrays.proofs.HeldLemmas.{bytes-refused, err-as, misses-refused}
use Rattle.xls_arrays.proofs.laying.lay_stream.Goals as goal

pub returns-in_err-refuse_bytes-clause-err : goal.returns-in_err-refuse_bytes-clause-err
returns-in_err-refuse_bytes-clause-err c =
    let stream = c.args.stream.now in
    err-as (RefusesStream c.args.options.now stream) c.from_residual.result _ c.from_residual.ensures.1
    (bytes-refused c.args.options.now stream _ c.in_err-refuse_bytes.ensures.err)

pub returns-in_err-lay_view-clause-err : goal.returns-in_err-lay_view-clause-err
returns-in_err-lay_view-clause-err c =
    let stream = c.args.stream.now in
    let view = c.in_ok-view.view in
    let shows : ShowsStream c.args.options.now stream view =
    record {
      plain = c.in_ok-refuse_bytes.ensures.ok;
      viewed = subst (λ (o : XlsOptions). IsViewed (rules_of o) stream view) c.in_ok-reader.ensures c.in_ok-view.ensures.ok;
    } in
    err-as (RefusesStream c.args.options.now stream) c.from_residual-in_err-lay_view.result _
    c.from_residual-in_err-lay_view.ensures.1
    (misses-refused c.args.options.now stream view shows _ c.in_err-lay_view.ensures.err)

pub returns-clause-ok : goal.returns-clause-ok
returns-clause-ok c =
    λ h.
    let stream = c.args.stream.now in
    let view = c.in_ok-view.view in
    let shows : ShowsStream c.args.options.now stream view =
    record {
      plain = c.in_ok-refuse_bytes.ensures.ok;
      viewed = subst (λ (o : XlsOptions). IsViewed (rules_of o) stream view) c.in_ok-reader.ensures c.in_ok-view.ensures.ok;
    } in
    let laid = c.in_ok-lay_view.ensures.ok in
    let held : IsHeld c.args.options.now stream c.has_1904_epoch.result (arrays_of view.book.names laid.0) =
    record {
      view = view;
      shows = shows;
      sheets = laid.0;
      asked = laid.1;
      arrays = refl;
      epoch = c.has_1904_epoch.ensures;
    } in
    (arrays_of view.book.names laid.0, held, laid.2 empty h)
