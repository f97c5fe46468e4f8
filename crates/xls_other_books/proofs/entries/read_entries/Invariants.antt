use Rattle.std.proofs.Common.{◌≡◌, ◌++◌}
use Rattle.xls_parts.specs.PartRecords.{globals_records}
use Rattle.xls_other_books.specs.Entries.{entries_of}
use Rattle.xls_other_books.proofs.entries.read_entries.Given as goal

-- those so far and those that are left are all
abbrev pub invariant-records : goal.invariant-records
invariant-records l = l.found.items ++ entries_of l.r-iterator ≡ entries_of (globals_records l.stream)
