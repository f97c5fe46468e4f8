use Rattle.std.proofs.lemmas.Result.{on_ok_weaker}
use Rattle.xls_data.specs.Sheets.{sheet_content}
use Rattle.xls_arrays.specs.Displayed.{no_content}
use Rattle.xls_arrays.proofs.LaidLemmas.{lays-none, lays-sheet}
use Rattle.xls_arrays.proofs.TextLemmas.{encoded-as}
use Rattle.xls_arrays.proofs.sheets.lay_bare_sheet.Goals as goal

pub returns-clause-ok : goal.returns-clause-ok
returns-clause-ok c =
    on_ok_weaker c.lay_sheet_item.result
    (lays-sheet _ (sheet_content c.args.sheet.now) no_content c.in_ok-name.ensures.ok
    (encoded-as _ _ c.as_str.utf8 c.as_str.ensures.value) (lays-none _) c.sheet_item.ensures)
    c.lay_sheet_item.ensures.ok
