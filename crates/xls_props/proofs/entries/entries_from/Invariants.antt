use Rattle.std.proofs.Common.{◌≡◌, ◌++◌, ◌-◌}
use Rattle.xls_props.specs.Entries.{entries_from}
use Rattle.xls_props.proofs.entries.entries_from.Given as goal

-- the entries so far, with those of the bytes left, are all
abbrev pub invariant-entries : goal.invariant-entries
invariant-entries l = l.entries.items ++ entries_from (l.count - l.counter) l.rest ≡ entries_from l.count l.bytes
