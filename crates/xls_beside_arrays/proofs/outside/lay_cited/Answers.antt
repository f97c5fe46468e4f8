use Rattle.std.proofs.lemmas.Result.{on_ok_weaker}
use Rattle.xls_beside_arrays.proofs.LaidLemmas.{lays-three}
use Rattle.xls_beside_arrays.proofs.outside.lay_cited.Goals as goal
use Rattle.xls_beside_arrays.specs.Outside.{outside_item}

pub returns-clause-ok : goal.returns-clause-ok
returns-clause-ok c =
    on_ok_weaker c.lay_item.result
    (lays-three (outside_item c.args.row c.args.column) c.in_ok-book.ensures.ok c.in_ok-sheet.ensures.ok c.in_ok-name.ensures.ok
    c.outside_item.ensures)
    c.lay_item.ensures.ok
