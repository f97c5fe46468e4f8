use Rattle.std.proofs.Common.{ap, ◌∷◌, []}
use Rattle.std.specs.Str.{chars}
use Rattle.xls_data.specs.Sheets.{sheet_content}
use Rattle.xls_meaning.specs.Reading.{last_named}
use Rattle.xls_output.proofs.EachLemmas.{each-stops-more, puts-as, puts-each-stop, puts-then}
use Rattle.xls_beside.specs.Parts.{lines_if}
use Rattle.xls_beside.specs.Lines.{IsLineText, sheet}
use Rattle.xls_beside.proofs.sheets.put_sheet.Goals as goal

pub returns-in_err-put_sheet_line : goal.returns-in_err-put_sheet_line
returns-in_err-put_sheet_line g c = λ parts index.
    puts-each-stop c.from_residual.result c.from_residual.ensures.1 (each-stops-more _ c.in_err-put_sheet_line.ensures)

pub returns : goal.returns
returns g c = λ parts index.
    let s = sheet_content c.args.sheet.now in
    let lines = lines_if (g.T.Tells.lines c.args.things.now) in
    puts-then (IsLineText c.args.form) (sheet s ∷ []) (lines (last_named parts s.name)) _ c.put_named.result c.in_ok-put_sheet_line.ensures
    (puts-as (IsLineText c.args.form) _ _ c.put_named.result (ap (λ name. lines (last_named parts (chars name))) c.as_str.ensures.value)
    (c.put_named.ensures parts index))
