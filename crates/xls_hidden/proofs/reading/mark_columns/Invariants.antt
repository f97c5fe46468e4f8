use Rattle.xls_hidden.specs.Reading.{IsMarked}
use Rattle.xls_hidden.proofs.reading.mark_columns.Given as goal

abbrev pub invariant-lines : goal.invariant-lines
invariant-lines l = IsMarked l.columns.mark l.first l.line l.initial.marks.items l.marks.items
