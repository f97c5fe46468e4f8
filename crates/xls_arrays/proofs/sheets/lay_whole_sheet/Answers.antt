use Rattle.std.proofs.lemmas.Result.{on_ok_weaker}
use Rattle.xls_data.specs.Sheets.{sheet_content}
use Rattle.xls_arrays.proofs.LaidLemmas.{lays-sheet}
use Rattle.xls_arrays.proofs.TextLemmas.{encoded-as}
use Rattle.xls_arrays.proofs.sheets.lay_whole_sheet.Goals as goal

pub returns-clause-ok : goal.returns-clause-ok
returns-clause-ok c =
    on_ok_weaker c.lay_sheet_item.result
    (lays-sheet _ (sheet_content c.args.sheet.now) _ c.in_ok-name.ensures.ok
    (encoded-as _ _ c.as_str.utf8 c.as_str.ensures.value) c.in_ok-lay_content.ensures.ok c.sheet_item.ensures)
    c.lay_sheet_item.ensures.ok
