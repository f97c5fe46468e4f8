use Rattle.xls_documents.proofs.DirectoryLemmas.{LookedAt}
use Rattle.xls_documents.proofs.macro_directory.directory_entry.Given as goal

-- none of the entries that were looked at is a directory
abbrev pub invariant-entries : goal.invariant-entries
invariant-entries l =
    (goal.iterator-entries).can_next l.entry-iterator ×
    (goal.iterator-entries).is_finite l.entry-iterator ×
    LookedAt l.fn.compound.listing l.entry-iterator
