use Rattle.std.proofs.Common.{◌∷◌, [], ap, codes}
use Rattle.xls_output.proofs.EachLemmas.{puts-as, puts-memory}
use Rattle.xls_style_cells.specs.Places.{cell_given}
use Rattle.xls_styles.specs.Styles.{CellStyle}
use Rattle.xls_beside.specs.Lines.{IsLineText, line}
use Rattle.xls_beside.specs.Styles.{style_members}
use Rattle.xls_beside.proofs.styles.put_look.Goals as goal

pub returns-in_err-words : goal.returns-in_err-words
returns-in_err-words g c = puts-memory (IsLineText c.args.form) _ _ _ _ _ c.from_residual.result c.from_residual.ensures.1

pub returns : goal.returns
returns g c =
    let told = λ (s : CellStyle). line (codes "style") (style_members (cell_given c.args.cell.now).0 s) ∷ [] in
    puts-as (IsLineText c.args.form) _ _ c.put_style.result (ap told c.cell-style.ensures) c.put_style.ensures
