use Rattle.std.proofs.Common.{◌≡◌, drop, map}
use Rattle.xls_data.specs.Sheets.{sheet_content}
use Rattle.xls_answers.specs.Sheets.{first_worksheet_from}
use Rattle.xls_answers.proofs.tables.first_worksheet.Given as goal

-- no sheet so far is a worksheet
abbrev pub invariant-loop-index : goal.invariant-loop-index
invariant-loop-index l =
    first_worksheet_from 0 (map sheet_content l.sheets) ≡ first_worksheet_from l.index (map sheet_content (drop l.index l.sheets))
