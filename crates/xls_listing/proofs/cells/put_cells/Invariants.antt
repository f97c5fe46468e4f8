use Rattle.std.proofs.Common.{map}
use Rattle.xls_output.specs.Output.{output_of}
use Rattle.xls_listing.specs.Listing.{lines_of_cells, listed_cell}
use Rattle.xls_listing.proofs.LineLemmas.{PutsSome}
use Rattle.xls_listing.proofs.cells.put_cells.Given as goal

-- the lines of some cells are put, and the others are left
abbrev pub invariant-loop-cell : goal.invariant-loop-cell
invariant-loop-cell g l =
    (goal.iterator-loop-cell g).can_next l.cell-iterator ×
    (goal.iterator-loop-cell g).is_finite l.cell-iterator ×
    PutsSome (g.F.LineForm.is_text l.form) (lines_of_cells (map (listed_cell l.reader) l.fn.cells)) (lines_of_cells (map (listed_cell l.reader) l.cell-iterator))
    (output_of g.K.Sink.state g.F.Buffer.Gathers.kept l.fn.out) (output_of g.K.Sink.state g.F.Buffer.Gathers.kept l.out)
