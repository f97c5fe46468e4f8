use Rattle.xls_csv.specs.Boxes.{lent_view}
use Rattle.xls_output.specs.Output.{output_of}
use Rattle.xls_csv.proofs.SeenLemmas.{SeenSoFar}
use Rattle.xls_csv.proofs.seen.put_seen_fields.Given as goal

-- the fields that can be seen before this column are gathered
abbrev pub invariant-loop-column : goal.invariant-loop-column
invariant-loop-column g l =
    let state = output_of g.K.Sink.state g.B.Gathers.kept in
    SeenSoFar (g.B.BoxBuffer.fields l.form (lent_view l.formats)) l.hidden.columns l.row l.fn.extent.left l.fn.extent.width l.fn.cells (state l.fn.out) l.column l.cells l.is_first l.is_bare (state l.out)
