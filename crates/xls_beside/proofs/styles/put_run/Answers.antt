use Rattle.std.proofs.Common.{◌∷◌, [], ap, codes}
use Rattle.xls_output.proofs.EachLemmas.{puts-as, puts-memory}
use Rattle.xls_style_cells.specs.Places.{cell_given}
use Rattle.xls_styles.specs.Styles.{FontStyle}
use Rattle.xls_beside.specs.Lines.{IsLineText, line}
use Rattle.xls_beside.specs.Styles.{run_members}
use Rattle.xls_beside.proofs.styles.put_run.Goals as goal

pub returns-in_err-words : goal.returns-in_err-words
returns-in_err-words g c = puts-memory (IsLineText c.args.form) _ _ _ _ _ c.from_residual.result c.from_residual.ensures.1

pub returns : goal.returns
returns g c =
    let told = λ (f : FontStyle). line (codes "run") (run_members (cell_given c.args.cell.now).0 c.args.run f) ∷ [] in
    puts-as (IsLineText c.args.form) _ _ c.put_font.result (ap told c.font-font.ensures) c.put_font.ensures
