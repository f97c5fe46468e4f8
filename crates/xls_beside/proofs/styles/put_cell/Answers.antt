use Rattle.std.proofs.Common.{ap, map}
use Rattle.xls_output.proofs.EachLemmas.{each-stops-more, puts-as, puts-each-stop, puts-then}
use Rattle.xls_style_cells.specs.Places.{cell_given}
use Rattle.xls_beside.specs.Lines.{IsLineText}
use Rattle.xls_beside.specs.Styles.{run_line}
use Rattle.xls_beside.proofs.styles.put_cell.Goals as goal

pub returns-in_err-put_look : goal.returns-in_err-put_look
returns-in_err-put_look g c =
    puts-each-stop c.from_residual.result c.from_residual.ensures.1 (each-stops-more _ c.in_err-put_look.ensures)

pub returns : goal.returns
returns g c =
    let told = run_line c.args.looks.now.styles.now (cell_given c.args.cell.now).0 in
    puts-then (IsLineText c.args.form) _ _ _ c.put_runs.result c.in_ok-put_look.ensures
    (puts-as (IsLineText c.args.form) _ _ c.put_runs.result (ap (map told) c.of-runs.ensures) c.put_runs.ensures)
