use Rattle.std.proofs.Common.{◌+◌, ◌-◌}
use Rattle.xls_output.specs.Output.{output_of}
use Rattle.xls_output.proofs.EachLemmas.{EachSome}
use Rattle.xls_csv.specs.Boxes.{lent_view, IsRow}
use Rattle.xls_csv.specs.Walk.{no_cell, rows_over}
use Rattle.xls_csv.proofs.RowLemmas.{one}
use Rattle.xls_hidden_cells.specs.Seen.{seen_rows}
use Rattle.xls_csv.proofs.seen.put_seen_rows.Given as goal

-- some rows are gathered, and the others are still to come
abbrev pub invariant-loop-i : goal.invariant-loop-i
invariant-loop-i g l =
    let state = output_of g.K.Sink.state g.B.Gathers.kept in
    let box = l.extent in
    EachSome (IsRow (g.B.BoxBuffer.fields l.form (lent_view l.formats))) one
    (seen_rows l.hidden box.top box.left (rows_over no_cell box.height box.top box.left box.width l.fn.cells))
    (seen_rows l.hidden (box.top + l.i) box.left (rows_over no_cell (box.height - l.i) (box.top + l.i) box.left box.width l.cells)) (state l.fn.out) (state l.out)
