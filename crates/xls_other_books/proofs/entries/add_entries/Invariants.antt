use Rattle.std.proofs.Common.{◌≡◌, ◌++◌}
use Rattle.xls_other_books.specs.Entries.{entries_in}
use Rattle.xls_other_books.proofs.entries.add_entries.Given as goal

-- those so far and those that are left are all
abbrev pub invariant-entries : goal.invariant-entries
invariant-entries l = l.found.items ++ entries_in l.left l.rest ≡ l.fn.found.items ++ entries_in l.count l.bytes

abbrev pub decreases-entries : goal.decreases-entries
decreases-entries l = l.left
