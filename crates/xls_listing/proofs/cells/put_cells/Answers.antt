use Rattle.std.proofs.Common.{List, ap, map}
use Rattle.xls_view.specs.Formats.{FormattedCell}
use Rattle.xls_listing.specs.Listing.{lines_of_cells, listed_cell}
use Rattle.xls_listing.proofs.LineLemmas.{some-all, some-first, some-next, some-stopped}
use Rattle.xls_output.proofs.EachLemmas.{puts-each-stop}
use Rattle.xls_listing.proofs.cells.put_cells.Goals as goal

pub loop-cell-init : goal.loop-cell-init
loop-cell-init g c =
    let lines = λ (cells : List FormattedCell). lines_of_cells (map (listed_cell c.args.reader.now) cells) in
    (tt, tt, some-first (g.F.LineForm.is_text c.args.form.now) _ _ _ (ap lines c.into_iter-cell-iterator.ensures.into_iter_gives))

pub loop-cell-preserved : goal.loop-cell-preserved
loop-cell-preserved g c =
    let lines = λ (cells : List FormattedCell). lines_of_cells (map (listed_cell c.args.reader.now) cells) in
    (tt, tt, some-next c.loop-cell.invariant.2 (ap lines c.in-Some.ensures.steps) c.in_ok-put_cell.ensures)

pub returns-in_err-put_cell : goal.returns-in_err-put_cell
returns-in_err-put_cell g c =
    let lines = λ (cells : List FormattedCell). lines_of_cells (map (listed_cell c.args.reader.now) cells) in
    puts-each-stop c.from_residual.result c.from_residual.ensures.1
    (some-stopped _ c.loop-cell.invariant.2 (ap lines c.in-Some.ensures.steps) c.in_err-put_cell.ensures)

pub returns : goal.returns
returns g c =
    let lines = λ (cells : List FormattedCell). lines_of_cells (map (listed_cell c.args.reader.now) cells) in
    some-all c.loop-cell.invariant.2 (ap lines c.in-None.ensures.steps.0)
