use Rattle.xls_output.specs.Each.{text_output}
use Rattle.xls_output.proofs.EachLemmas.{EachSome}
use Rattle.xls_beside.specs.Lines.{IsLineText}
use Rattle.xls_beside.specs.Styles.{cell_lines}
use Rattle.xls_beside.proofs.styles.put_cells.Given as goal

-- the lines of some cells are put, and the others are left
abbrev pub invariant-loop-cell : goal.invariant-loop-cell
invariant-loop-cell g l =
    (goal.iterator-loop-cell g).can_next l.cell-iterator ×
    (goal.iterator-loop-cell g).is_finite l.cell-iterator ×
    EachSome (IsLineText l.form) (cell_lines l.looks.version l.looks.styles.now l.looks.strings.now) l.fn.cells l.cell-iterator
    (text_output g.K.Sink.state l.fn.out) (text_output g.K.Sink.state l.out)
