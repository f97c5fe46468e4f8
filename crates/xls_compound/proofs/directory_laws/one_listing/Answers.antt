use Rattle.xls_compound.specs.DirectoryEntries.{entries_of}
use Rattle.xls_compound.proofs.OneTreeLemmas as one
use Rattle.xls_compound.proofs.directory_laws.one_listing.Goals as goal

pub returns-clause-listing : goal.returns-clause-listing
returns-clause-listing c is_wide bytes l m h k = one.one_listing (entries_of is_wide bytes) l m h k

pub returns-clause-fault : goal.returns-clause-fault
returns-clause-fault c is_wide bytes e f h k = one.one_first (entries_of is_wide bytes) e f h k

pub returns-clause-either : goal.returns-clause-either
returns-clause-either c is_wide bytes l e h k = one.never_both (entries_of is_wide bytes) l e h k
