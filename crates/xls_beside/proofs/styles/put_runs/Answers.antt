use Rattle.std.proofs.Common.{◌∷◌, []}
use Rattle.xls_output.proofs.EachLemmas.{each-as, each-some-all, each-some-first, each-some-next, each-some-stopped, each-stops-as, puts-each-stop}
use Rattle.xls_style_cells.specs.Places.{cell_given}
use Rattle.xls_beside.specs.Lines.{IsLineText}
use Rattle.xls_beside.specs.Styles.{run_line}
use Rattle.xls_beside.proofs.LineLemmas.{item_lines}
use Rattle.xls_beside.proofs.styles.put_runs.Goals as goal

pub loop-run-init : goal.loop-run-init
loop-run-init g c =
    let told = run_line c.args.styles.now (cell_given c.args.cell.now).0 in
    (tt, tt, each-some-first (IsLineText c.args.form) (λ run. told run ∷ []) _ _ _ c.into_iter-run-iterator.ensures.into_iter_gives)

pub loop-run-preserved : goal.loop-run-preserved
loop-run-preserved g c =
    let told = run_line c.args.styles.now (cell_given c.args.cell.now).0 in
    (tt, tt, each-some-next (λ run. told run ∷ []) c.loop-run.invariant.2 c.in-Some.ensures.steps c.in_ok-put_run.ensures)

pub returns-in_err-put_run : goal.returns-in_err-put_run
returns-in_err-put_run g c =
    let told = run_line c.args.styles.now (cell_given c.args.cell.now).0 in
    puts-each-stop c.from_residual.result c.from_residual.ensures.1
    (each-stops-as (each-some-stopped (λ run. told run ∷ []) c.loop-run.invariant.2 c.in-Some.ensures.steps c.in_err-put_run.ensures)
    (item_lines told c.args.runs))

pub returns : goal.returns
returns g c =
    let told = run_line c.args.styles.now (cell_given c.args.cell.now).0 in
    each-as (each-some-all (λ run. told run ∷ []) c.loop-run.invariant.2 c.in-None.ensures.steps.0) (item_lines told c.args.runs)
