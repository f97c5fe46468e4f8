use Rattle.std.proofs.Common.{◌∷◌, []}
use Rattle.xls_output.specs.Each.{text_output}
use Rattle.xls_output.proofs.EachLemmas.{EachSome}
use Rattle.xls_documents.specs.Streams.{IsEntryText}
use Rattle.xls_documents.proofs.streams.put_entries.Given as goal

-- the lines of some entries are put, and the others are left
abbrev pub invariant-loop-entry : goal.invariant-loop-entry
invariant-loop-entry g l =
    (goal.iterator-loop-entry g).can_next l.entry-iterator ×
    (goal.iterator-loop-entry g).is_finite l.entry-iterator ×
    EachSome (IsEntryText l.form) (λ entry. entry ∷ []) l.fn.entries l.entry-iterator
    (text_output g.K.Sink.state l.fn.out) (text_output g.K.Sink.state l.out)
