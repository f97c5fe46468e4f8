use Rattle.std.proofs.Common.{List, ap, map}
use Rattle.xls_open.specs.Globals.{listed_of}
use Rattle.xls_stream.specs.StringTable.{Mark}
use Rattle.xls_output.proofs.EachLemmas.{each-as, each-stops-as, each-stops-more, puts-as, puts-each-stop, puts-then}
use Rattle.xls_beside.specs.Lines.{IsLineText}
use Rattle.xls_beside.specs.Parts.{parts_of, sheet_lines}
use Rattle.xls_beside.specs.Styles.{damaged_style, styles_in}
use Rattle.xls_beside.proofs.styles.put_damages_and_sheets.Goals as goal

pub returns-in_err-put_damages : goal.returns-in_err-put_damages
returns-in_err-put_damages g c =
    puts-each-stop c.from_residual.result c.from_residual.ensures.1
    (each-stops-more _ (each-stops-as c.in_err-put_damages.ensures (ap (map damaged_style) c.damages.ensures)))

pub returns : goal.returns
returns g c =
    let looks = c.args.looks.now in
    let stream = looks.stream.now in
    let sheets = map listed_of c.args.listed.now in
    let told = λ (table : List Mark). sheet_lines (styles_in looks.version looks.styles.now table stream) (parts_of looks.version sheets stream) sheets in
    puts-then (IsLineText c.args.form) _ _ _ c.put_listed.result
    (each-as c.in_ok-put_damages.ensures (ap (map damaged_style) c.damages.ensures))
    (puts-as (IsLineText c.args.form) _ _ c.put_listed.result (ap told c.requires) c.put_listed.ensures)
