use Rattle.xls_answers.proofs.HiddenLemmas.{all_counted}
use Rattle.xls_answers.proofs.hidden_cells.count_hidden.Goals as goal

pub returns : goal.returns
returns c =
    let (_, _, so, same) = c.loop-cell.invariant in
    all_counted c.args.hidden.now c.args.cells c.loop-cell.count c.loop-cell.cell-iterator c.in-None.ensures.steps.0 same so
