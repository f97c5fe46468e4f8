use Rattle.xls_output.proofs.EachLemmas.{each-some-all, each-some-first, each-some-next, each-some-stopped, puts-each-stop}
use Rattle.xls_beside.specs.Lines.{IsLineText}
use Rattle.xls_beside.specs.Styles.{cell_lines}
use Rattle.xls_beside.proofs.styles.put_cells.Goals as goal

pub loop-cell-init : goal.loop-cell-init
loop-cell-init g c =
    let lines = cell_lines c.args.looks.now.version c.args.looks.now.styles.now c.args.looks.now.strings.now in
    (tt, tt, each-some-first (IsLineText c.args.form) lines _ _ _ c.into_iter-cell-iterator.ensures.into_iter_gives)

pub loop-cell-preserved : goal.loop-cell-preserved
loop-cell-preserved g c =
    let lines = cell_lines c.args.looks.now.version c.args.looks.now.styles.now c.args.looks.now.strings.now in
    (tt, tt, each-some-next lines c.loop-cell.invariant.2 c.in-Some.ensures.steps c.in_ok-put_cell.ensures)

pub returns-in_err-put_cell : goal.returns-in_err-put_cell
returns-in_err-put_cell g c =
    let lines = cell_lines c.args.looks.now.version c.args.looks.now.styles.now c.args.looks.now.strings.now in
    puts-each-stop c.from_residual.result c.from_residual.ensures.1
    (each-some-stopped lines c.loop-cell.invariant.2 c.in-Some.ensures.steps c.in_err-put_cell.ensures)

pub returns : goal.returns
returns g c =
    let lines = cell_lines c.args.looks.now.version c.args.looks.now.styles.now c.args.looks.now.strings.now in
    each-some-all lines c.loop-cell.invariant.2 c.in-None.ensures.steps.0
