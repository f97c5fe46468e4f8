use Rattle.std.proofs.Common.{◌∷◌, []}
use Rattle.xls_output.specs.Each.{text_output}
use Rattle.xls_output.proofs.EachLemmas.{EachSome}
use Rattle.xls_style_cells.specs.Places.{cell_given}
use Rattle.xls_beside.specs.Lines.{IsLineText}
use Rattle.xls_beside.specs.Styles.{run_line}
use Rattle.xls_beside.proofs.styles.put_runs.Given as goal

-- the lines of some runs are put, and the others are left
abbrev pub invariant-loop-run : goal.invariant-loop-run
invariant-loop-run g l =
    (goal.iterator-loop-run g).can_next l.run-iterator ×
    (goal.iterator-loop-run g).is_finite l.run-iterator ×
    EachSome (IsLineText l.form) (λ run. run_line l.styles (cell_given l.cell).0 run ∷ []) l.fn.runs l.run-iterator
    (text_output g.K.Sink.state l.fn.out) (text_output g.K.Sink.state l.out)
