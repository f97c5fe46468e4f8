use Rattle.xls_other_books.specs.Formulas.{outside_of}
use Rattle.xls_parts.specs.PartRecords.{Placed}
use Rattle.xls_beside.specs.Books.{outside_lines}
use Rattle.xls_output.specs.Each.{text_output}
use Rattle.xls_output.proofs.EachLemmas.{EachSome}
use Rattle.xls_beside.specs.Lines.{IsLineText}
use Rattle.xls_beside.proofs.books.put_records.Given as goal

-- the lines of some records are put, and the others are left
abbrev pub invariant-loop-r : goal.invariant-loop-r
invariant-loop-r g l =
    (goal.iterator-loop-r g).can_next l.r-iterator ×
    (goal.iterator-loop-r g).is_finite l.r-iterator ×
    EachSome (IsLineText l.form) (λ (r : Placed). outside_lines (outside_of l.other r)) l.fn.records l.r-iterator
    (text_output g.K.Sink.state l.fn.out) (text_output g.K.Sink.state l.out)
