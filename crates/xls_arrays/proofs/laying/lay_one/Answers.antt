use Rattle.std.proofs.Common.{arith, slice_get, subst}
use Rattle.xls_data.specs.Sheets.{sheet_content}
use Rattle.xls_view.specs.Viewing.{Viewed}
use Rattle.xls_arrays.specs.Arrays.{with_sheet}
use Rattle.xls_arrays.specs.Classed.{classed_book}
use Rattle.xls_arrays.specs.Displayed.{content_in}
use Rattle.xls_arrays.specs.Filled.{Lays}
use Rattle.xls_arrays.proofs.DisplayedLemmas.{each-at, mapped}
use Rattle.xls_arrays.proofs.laying.lay_one.Goals as goal

pub returns-clause-ok : goal.returns-clause-ok
returns-clause-ok c =
    let book = classed_book c.args.view.now in
    let sheet = c.index-sheets-n.result in
    let here = mapped sheet_content c.sheets-sheets.result.now book.sheets c.args.index sheet
    (omega arith) c.index-sheets-n.is c.sheets-sheets.ensures in (
      (sheet_content sheet, content_in (slice_get book.contents c.args.index)),
      each-at book.sheets book.contents c.args.index (sheet_content sheet) here,
      subst (λ (v : Viewed). Lays c.args.rooms.now c.lay_whole_sheet.new.rooms
          (λ a. with_sheet a (sheet_content sheet, content_in (slice_get (classed_book v).contents c.args.index))))
          c.in_ok-formats.ensures c.in_ok-lay_whole_sheet.ensures.ok,
    )
