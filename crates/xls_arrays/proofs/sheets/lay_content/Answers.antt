use Rattle.std.proofs.Common.{◌≡◌, slice_get, Some, None, Option, OnOk, subst}
use Rattle.xls_meaning.specs.Reading.{SheetView}
use Rattle.xls_view.specs.Displayed.{sheet_view_of}
use Rattle.xls_view.specs.Viewing.{Viewed}
use Rattle.xls_arrays.specs.Arrays.{with_content}
use Rattle.xls_arrays.specs.Classed.{classed_book}
use Rattle.xls_arrays.specs.Displayed.{content_in}
use Rattle.xls_arrays.specs.Filled.{Lays}
use Rattle.xls_arrays.proofs.DisplayedLemmas.{classed-at, classed-missing}
use Rattle.xls_arrays.proofs.LaidLemmas.{lays-missing}
use Rattle.xls_arrays.proofs.sheets.lay_content.Goals as goal

pub returns-in-Some-clause-ok : goal.returns-in-Some-clause-ok
returns-in-Some-clause-ok c =
    let view = c.args.formats.now in
    let n = c.args.n in
    let sheet = c.in-Some.sheet in
    let shown : Some (sheet_view_of sheet) ≡ slice_get view.book.contents n =
    subst (λ (v : Viewed). Some (sheet_view_of sheet) ≡ slice_get v.book.contents n) c.view.ensures c.in-Some.ensures.content in
    let cells : Some sheet.formatted ≡ slice_get view.formatted n =
    subst (λ (v : Viewed). Some sheet.formatted ≡ slice_get v.formatted n) c.view.ensures c.in-Some.ensures.formatted in
    subst (λ (o : Option SheetView). OnOk c.lay_displayed.result
    (Lays c.args.rooms.now c.lay_displayed.new.rooms (λ a. with_content a (content_in o))))
    (classed-at view n (sheet_view_of sheet) sheet.formatted shown cells) c.lay_displayed.ensures.ok

pub returns-in-None-clause-ok : goal.returns-in-None-clause-ok
returns-in-None-clause-ok c =
    let n = c.args.n in
    lays-missing (slice_get (classed_book c.args.formats.now).contents n) c.args.rooms.now
    (classed-missing c.args.formats.now n
    (subst (λ (v : Viewed). None ≡ slice_get v.book.contents n) c.view.ensures c.in-None.ensures.content))
