use Rattle.std.proofs.Common.{ap, map}
use Rattle.xls_open.specs.Globals.{listed_of}
use Rattle.xls_styles.specs.Styles.{Styles}
use Rattle.xls_output.proofs.EachLemmas.{puts-as, puts-memory}
use Rattle.xls_beside.specs.Lines.{IsLineText}
use Rattle.xls_beside.specs.Styles.{told_lines}
use Rattle.xls_beside.proofs.styles.put_told.Goals as goal

pub returns-in_err-styles : goal.returns-in_err-styles
returns-in_err-styles g c = puts-memory (IsLineText c.args.form) _ _ _ _ _ c.from_residual.result c.from_residual.ensures.1

pub returns : goal.returns
returns g c =
    let sheets = map listed_of c.args.listed.now in
    let same = ap (λ (s : Styles). told_lines c.args.version s sheets c.args.stream.now) c.in_ok-styles.ensures in
    puts-as (IsLineText c.args.form) _ _ c.put_damages_and_sheets.result same c.put_damages_and_sheets.ensures
