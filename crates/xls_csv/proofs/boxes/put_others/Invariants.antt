use Rattle.xls_csv.specs.Boxes.{lent_view}
use Rattle.xls_output.specs.Output.{output_of}
use Rattle.xls_csv.proofs.RowLemmas.{FieldsSoFar}
use Rattle.xls_csv.proofs.boxes.put_others.Given as goal

-- the fields before this column are gathered
abbrev pub invariant-loop-column : goal.invariant-loop-column
invariant-loop-column g l =
    let state = output_of g.K.Sink.state g.B.Gathers.kept in
    FieldsSoFar (g.B.BoxBuffer.fields l.form (lent_view l.formats)) l.row l.fn.extent.left l.fn.extent.width l.fn.cells (state l.fn.out) l.column l.cells (state l.out)
