use Rattle.xls_output.specs.Each.{text_output}
use Rattle.xls_output.proofs.EachLemmas.{EachSome}
use Rattle.xls_documents.specs.Lines.{IsLineText}
use Rattle.xls_documents.specs.Properties.{custom_lines}
use Rattle.xls_documents.proofs.properties.put_customs.Given as goal

-- the lines of some custom properties are put, and the others are left
abbrev pub invariant-loop-name : goal.invariant-loop-name
invariant-loop-name g l =
    (goal.iterator-loop-name g).can_next l.name-iterator ×
    (goal.iterator-loop-name g).is_finite l.name-iterator ×
    EachSome (IsLineText l.form) custom_lines l.fn.customs l.name-iterator
    (text_output g.K.Sink.state l.fn.out) (text_output g.K.Sink.state l.out)
